-- The rows that the loop has passed are written, and all else is as it was.
use Rattle.std.proofs.Common.{◌≡◌, ◌*◌, length, get_or}
use Rattle.dd_geom.proofs.PaintLemmas.{IsDrawn}
use Rattle.dd_grid.specs.Drawing.{place_in}
use Rattle.dd_grid.proofs.drawing.copy_image.Given as goal

abbrev pub invariant-loop-y : goal.invariant-loop-y
invariant-loop-y l =
    record {
      whole : length l.cells ≡ l.width * l.height;
      drawn : IsDrawn l.width (record l.sides { bottom = l.y })
          (λ x y. get_or l.colours (place_in l.sides x y) 0) l.fn.cells l.cells;
    }
