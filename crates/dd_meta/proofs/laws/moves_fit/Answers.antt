use Rattle.dd_meta.proofs.Sizes.{moves_fit}
use Rattle.dd_meta.proofs.laws.moves_fit.Goals as goal

pub returns : goal.returns
returns c = moves_fit
