-- The rows that the loop has passed are drawn, and all else is as it was.
use Rattle.std.proofs.Common.{◌≡◌, pos}
use Rattle.dd_geom.specs.Grid.{SameSize}
use Rattle.dd_pointer.specs.Compositing.{rows_covered}
use Rattle.dd_pointer.specs.Cutting.{spanned, drawn_at}
use Rattle.dd_pointer.proofs.Drawn.{part, passed_rows}
use Rattle.dd_pointer.proofs.compositing.compose.Given as goal

abbrev pub invariant-loop-y : goal.invariant-loop-y
invariant-loop-y l =
    record {
      drawn : l.s ≡ part l.fn.s
          (passed_rows (λ k. spanned l.fn.at.x l.fn.shape.width (pos k))
          (λ k. spanned l.fn.at.y (rows_covered l.fn.shape.kind l.fn.shape.height) (pos k)) l.y)
          (drawn_at l.fn.s l.fn.shape l.fn.at);
      size : SameSize l.fn.s l.s;
    }
