use Rattle.dd_dup.proofs.Frames.{stands_later}
use Rattle.dd_dup.proofs.laws.stands_later.Goals as goal

pub returns : goal.returns
returns c = stands_later
