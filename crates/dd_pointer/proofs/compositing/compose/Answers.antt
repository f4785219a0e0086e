-- Each row of the span is one row more.
use Rattle.std.proofs.Common.{◌≡◌, ℕ, ◌+◌, ◌≤◌, ◌&&◌, ◌==◌, Bool, true, pos, ◌-ℤ◌, int_le, int_lt, refl, ap, ◌∙◌, arith}
use Rattle.std.proofs.lemmas.Bool.{and_left, and_parts, eqb-true, le-ltb}
use Rattle.dd_geom.specs.Rect.{place, covers}
use Rattle.dd_pointer.specs.Compositing.{composited, rows_covered, extent}
use Rattle.dd_pointer.specs.Cutting.{spanned, drawn_at, row_composed}
use Rattle.dd_pointer.proofs.Drawn.{part_none, part_same, part_more, passed_rows, row_more, none_before, all_after, place_passes, as_sides}
use Rattle.dd_pointer.proofs.compositing.compose.Goals as goal

pub loop-y-init : goal.loop-y-init
loop-y-init c =
    let g = c.args.s.now in
    let s = c.args.shape.now in
    let at = c.args.at in
    let span = c.rows-span.result in
    let columns : ℕ → Bool = λ k. spanned at.x s.width (pos k) in
    let rows : ℕ → Bool = λ k. spanned at.y (rows_covered s.kind s.height) (pos k) in
    record {
      drawn =
          part_none g (passed_rows columns rows span.from) (drawn_at g s at) c.rows-span.ensures.surface.whole
          (λ x y across down.
          and_left _ _ (none_before rows span.from span.to g.height y c.rows-span.ensures.cut.same down));
      size = record { width = refl; height = refl };
    }

pub loop-y-preserved : goal.loop-y-preserved
loop-y-preserved c =
    let g = c.args.s.now in
    let s = c.args.shape.now in
    let at = c.args.at in
    let row = c.loop-y.y in
    let span = c.rows-span.result in
    let columns : ℕ → Bool = λ k. spanned at.x s.width (pos k) in
    let rows : ℕ → Bool = λ k. spanned at.y (rows_covered s.kind s.height) (pos k) in
    let f : ℕ → ℕ → ℕ → ℕ = λ x y screen. composited s (place (pos x -ℤ at.x)) (place (pos y -ℤ at.y)) screen in
    let passes : rows row ≡ true =
    place_passes rows span.from span.to g.height row c.rows-span.ensures.cut.same
    (omega (arith, c.rows-span.ensures.cut.inside)) (omega arith) (omega arith) in
    record {
      drawn =
          c.compose_row.ensures.drawn
          ∙ (ap (λ n. row_composed n s at row) c.loop-y.invariant.drawn
          ∙ part_more g (passed_rows columns rows row) (λ x y. y == row && columns x)
          (passed_rows columns rows (row + 1)) f
          (λ x y across down t.
          let here : y ≡ row = eqb-true y row (and_parts (y == row) (columns x) t).0 in
          and_left _ _ (and_left _ _ (le-ltb y row (omega arith))))
          (λ x y across down. row_more columns rows row x y passes));
      size =
          record {
            width = c.compose_row.ensures.size.width ∙ c.loop-y.invariant.size.width;
            height = c.compose_row.ensures.size.height ∙ c.loop-y.invariant.size.height;
          };
    }

pub returns-clause-drawn : goal.returns-clause-drawn
returns-clause-drawn c =
    let g = c.args.s.now in
    let s = c.args.shape.now in
    let at = c.args.at in
    let span = c.rows-span.result in
    let columns : ℕ → Bool = λ k. spanned at.x s.width (pos k) in
    let rows : ℕ → Bool = λ k. spanned at.y (rows_covered s.kind s.height) (pos k) in
    let past : span.to ≤ c.loop-y.y = omega arith in
    c.loop-y.invariant.drawn
    ∙ part_same g (passed_rows columns rows c.loop-y.y) (λ x y. covers (extent s at) (pos x) (pos y)) (drawn_at g s at)
    (λ x y across down.
    ap (λ b. b && columns x)
    (all_after rows span.from span.to g.height c.loop-y.y y c.rows-span.ensures.cut.same past down)
    ∙ as_sides (columns x) (int_le at.y (pos y)) (int_lt (pos y) (extent s at).bottom))
