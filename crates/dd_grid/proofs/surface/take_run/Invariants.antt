-- The colours that the loop has passed are what is seen of the cells.
use Rattle.std.proofs.Common.{◌≡◌, ◌<◌, take, map, All}
use Rattle.dd_grid.specs.declared.cell.TheConstants.{COLOURS}
use Rattle.dd_grid.specs.Cell.{seen_cell}
use Rattle.dd_grid.proofs.surface.take_run.Given as goal

abbrev pub invariant-loop-x : goal.invariant-loop-x
invariant-loop-x l =
    (take l.x l.to ≡ map seen_cell (take l.x l.from)) × All (λ c. c < COLOURS) (take l.x l.to)
