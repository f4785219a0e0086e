use Rattle.dd_ops.proofs.Veiling.{fits-veiled}
use Rattle.dd_ops.proofs.laws.veil_fits.Goals as goal

pub returns : goal.returns
returns c = fits-veiled
