use Rattle.dd_ops.proofs.Veiling.{seen-veiled}
use Rattle.dd_ops.proofs.laws.veil_is_seen.Goals as goal

pub returns : goal.returns
returns c = seen-veiled
