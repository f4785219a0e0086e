use Rattle.dd_grid.proofs.SeenLemmas.{SeenCommutes-all}
use Rattle.dd_grid.proofs.laws.seen_commutes.Goals as goal

pub returns : goal.returns
returns c = SeenCommutes-all
