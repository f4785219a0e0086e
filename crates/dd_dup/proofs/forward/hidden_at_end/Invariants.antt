use Rattle.std.proofs.Common.{◌≡◌, take}
use Rattle.dd_geom.specs.Grid.{Grid, SameSize}
use Rattle.dd_grid.specs.Cell.{Cell}
use Rattle.dd_grid.specs.Drawing.{hidden_points}
use Rattle.dd_log.specs.Picture.{shown}
use Rattle.dd_dup.proofs.forward.hidden_at_end.Given as goal

abbrev pub invariant-loop-entry : goal.invariant-loop-entry
invariant-loop-entry l =
    ((p : Grid Cell) → l.fn.hidden ≡ hidden_points p → l.next ≡ hidden_points (shown p (take l.entry-index l.entries)))
    × SameSize l.fn.hidden l.next
