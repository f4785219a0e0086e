-- The cells that the loop has passed hold their colours.
use Rattle.std.proofs.Common.{◌≡◌, take, map}
use Rattle.dd_grid.specs.Cell.{cell_of}
use Rattle.dd_grid.proofs.drawing.write_run.Given as goal

abbrev pub invariant-loop-x : goal.invariant-loop-x
invariant-loop-x l = take l.x l.to ≡ map (cell_of l.hidden) (take l.x l.colours)
