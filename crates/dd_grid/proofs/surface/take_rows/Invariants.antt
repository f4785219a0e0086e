-- The rows that the loop has passed are taken, all else is as it was, and each value stays a colour.
use Rattle.std.proofs.Common.{◌≡◌, ◌*◌, ◌<◌, length, All}
use Rattle.dd_geom.proofs.PaintLemmas.{IsDrawn}
use Rattle.dd_grid.specs.declared.cell.TheConstants.{COLOURS}
use Rattle.dd_grid.specs.Cell.{seen_cell}
use Rattle.dd_grid.specs.Drawing.{cell_at}
use Rattle.dd_grid.proofs.surface.take_rows.Given as goal

abbrev pub invariant-loop-y : goal.invariant-loop-y
invariant-loop-y l =
    record {
      whole : length l.colours ≡ l.width * l.height;
      taken : IsDrawn l.width (record l.sides { bottom = l.y }) (λ x y. seen_cell (cell_at l.from x y)) l.fn.colours
          l.colours;
      small : All (λ c. c < COLOURS) l.fn.colours → All (λ c. c < COLOURS) l.colours;
    }
