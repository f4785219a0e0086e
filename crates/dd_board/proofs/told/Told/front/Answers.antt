use Rattle.dd_board.proofs.Listed.{listed_few}
use Rattle.dd_board.proofs.told.Told.front.Goals as goal

pub returns-clause-few : goal.returns-clause-few
returns-clause-few g c = rw (← c.self.view_is) (listed_few _ _ c.self.inside.seen.log c.self.invariant.2)
