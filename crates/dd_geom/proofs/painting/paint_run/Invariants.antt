-- The cells that the loop has passed hold the value.
use Rattle.std.proofs.Common.{◌≡◌, take, replicate}
use Rattle.dd_geom.proofs.painting.paint_run.Given as goal

abbrev pub invariant-loop-cell : goal.invariant-loop-cell
invariant-loop-cell g l = take l.cell-index l.run ≡ replicate l.cell-index l.value
