use Rattle.dd_ops.proofs.Veiling.{cover-veiled}
use Rattle.dd_ops.proofs.laws.veil_hides.Goals as goal

pub returns : goal.returns
returns c = cover-veiled
