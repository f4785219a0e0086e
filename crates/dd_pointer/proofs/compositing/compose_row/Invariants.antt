-- The columns that the loop has passed are drawn in this row, and all else is as it was.
use Rattle.std.proofs.Common.{◌≡◌, pos}
use Rattle.dd_geom.specs.Grid.{SameSize}
use Rattle.dd_pointer.specs.Cutting.{spanned, drawn_at}
use Rattle.dd_pointer.proofs.Drawn.{part, passed_columns}
use Rattle.dd_pointer.proofs.compositing.compose_row.Given as goal

abbrev pub invariant-loop-x : goal.invariant-loop-x
invariant-loop-x l =
    record {
      drawn : l.s ≡ part l.fn.s (passed_columns (λ k. spanned l.fn.at.x l.fn.shape.width (pos k)) l.fn.y l.x)
          (drawn_at l.fn.s l.fn.shape l.fn.at);
      size : SameSize l.fn.s l.s;
    }
