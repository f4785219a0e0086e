-- The picture keeps its size.
use Rattle.dd_geom.specs.Grid.{SameSize}
use Rattle.uses_board.proofs.picture.copy.Given as goal

abbrev pub invariant-loop-x : goal.invariant-loop-x
invariant-loop-x l = SameSize l.fn.to l.to

abbrev pub invariant-loop-y : goal.invariant-loop-y
invariant-loop-y l = SameSize l.fn.to l.to
