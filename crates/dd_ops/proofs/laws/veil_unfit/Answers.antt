use Rattle.dd_ops.proofs.Veiling.{unfit-veiled}
use Rattle.dd_ops.proofs.laws.veil_unfit.Goals as goal

pub returns : goal.returns
returns c = unfit-veiled
