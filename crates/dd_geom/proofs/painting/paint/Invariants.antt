-- The rows that the loop has passed are painted, and all else is as it was.
use Rattle.std.proofs.Common.{◌≡◌, ◌*◌, length}
use Rattle.dd_geom.proofs.PaintLemmas.{IsPainted}
use Rattle.dd_geom.proofs.painting.paint.Given as goal

abbrev pub invariant-loop-y : goal.invariant-loop-y
invariant-loop-y g l =
    (length l.cells ≡ l.width * l.height)
    × IsPainted l.width (record l.sides { bottom = l.y }) l.value l.fn.cells l.cells
