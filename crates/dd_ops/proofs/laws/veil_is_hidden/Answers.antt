use Rattle.dd_ops.proofs.Veiling.{hidden-veiled}
use Rattle.dd_ops.proofs.laws.veil_is_hidden.Goals as goal

pub returns : goal.returns
returns c = hidden-veiled
