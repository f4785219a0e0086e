use Rattle.dd_grid.proofs.MovingLemmas.{IsSurface-seen}
use Rattle.dd_grid.proofs.laws.seen_is_surface.Goals as goal

pub returns : goal.returns
returns c = IsSurface-seen
