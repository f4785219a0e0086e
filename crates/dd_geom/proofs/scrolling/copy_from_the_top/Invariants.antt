-- The rows that the loop has passed are copied, and all else is as it was.
use Rattle.std.proofs.Common.{◌≡◌, ◌*◌, length}
use Rattle.dd_geom.proofs.ScrollLemmas.{IsTaken, copied_at}
use Rattle.dd_geom.proofs.scrolling.copy_from_the_top.Given as goal

abbrev pub invariant-loop-y : goal.invariant-loop-y
invariant-loop-y g l =
    (length l.cells ≡ l.width * l.height)
    × IsTaken l.width (record l.to { bottom = l.y }) (copied_at l.width l.to l.column l.row) l.fn.cells l.cells
