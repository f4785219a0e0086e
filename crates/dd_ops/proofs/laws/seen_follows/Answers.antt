use Rattle.dd_ops.proofs.Seen.{seen-drawn}
use Rattle.dd_ops.proofs.laws.seen_follows.Goals as goal

pub returns : goal.returns
returns c = seen-drawn
