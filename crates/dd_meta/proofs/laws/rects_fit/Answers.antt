use Rattle.dd_meta.proofs.Sizes.{rects_fit}
use Rattle.dd_meta.proofs.laws.rects_fit.Goals as goal

pub returns : goal.returns
returns c = rects_fit
