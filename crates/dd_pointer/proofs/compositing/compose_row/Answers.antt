-- Each column of the span is one point more.
use Rattle.std.proofs.Common.{◌≡◌, ℕ, ◌+◌, ◌≤◌, ◌&&◌, ◌==◌, Bool, true, pos, ◌-ℤ◌, refl, ap, ◌∙◌, arith}
use Rattle.std.proofs.lemmas.Bool.{and_right, and_left, le-ltb}
use Rattle.dd_geom.specs.Rect.{place}
use Rattle.dd_pointer.specs.Compositing.{composited}
use Rattle.dd_pointer.specs.Cutting.{spanned, drawn_at}
use Rattle.dd_pointer.proofs.Drawn.{part_none, part_same, part_point_more, passed_columns, column_more, none_before, all_after, place_passes}
use Rattle.dd_pointer.proofs.compositing.compose_row.Goals as goal

pub loop-x-init : goal.loop-x-init
loop-x-init c =
    let g = c.args.s.now in
    let at = c.args.at in
    let span = c.columns-span.result in
    let columns : ℕ → Bool = λ k. spanned at.x c.args.shape.now.width (pos k) in
    record {
      drawn =
          part_none g (passed_columns columns c.args.y span.from) (drawn_at g c.args.shape.now at)
          c.columns-span.ensures.surface.whole
          (λ x y across down.
          and_right _ _ (none_before columns span.from span.to g.width x c.columns-span.ensures.cut.same across));
      size = record { width = refl; height = refl };
    }

pub loop-x-preserved : goal.loop-x-preserved
loop-x-preserved c =
    let g = c.args.s.now in
    let s = c.args.shape.now in
    let at = c.args.at in
    let row = c.args.y in
    let x = c.loop-x.x in
    let span = c.columns-span.result in
    let columns : ℕ → Bool = λ k. spanned at.x s.width (pos k) in
    let f : ℕ → ℕ → ℕ → ℕ = λ x y screen. composited s (place (pos x -ℤ at.x)) (place (pos y -ℤ at.y)) screen in
    let passes : columns x ≡ true =
    place_passes columns span.from span.to g.width x c.columns-span.ensures.cut.same
    (omega (arith, c.columns-span.ensures.cut.inside)) (omega arith) (omega arith) in
    record {
      drawn =
          c.compose_point.ensures.drawn
          ∙ part_point_more g c.loop-x.s (passed_columns columns row x) (passed_columns columns row (x + 1)) f x row _
          c.loop-x.invariant.drawn refl (and_right _ _ (and_left _ _ (le-ltb x x (omega arith))))
          (λ at_x at_y across down. column_more columns row x at_x at_y passes);
      size =
          record {
            width = c.compose_point.ensures.size.width ∙ c.loop-x.invariant.size.width;
            height = c.compose_point.ensures.size.height ∙ c.loop-x.invariant.size.height;
          };
    }

pub returns-clause-drawn : goal.returns-clause-drawn
returns-clause-drawn c =
    let g = c.args.s.now in
    let at = c.args.at in
    let row = c.args.y in
    let span = c.columns-span.result in
    let columns : ℕ → Bool = λ k. spanned at.x c.args.shape.now.width (pos k) in
    let past : span.to ≤ c.loop-x.x = omega arith in
    c.loop-x.invariant.drawn
    ∙ part_same g (passed_columns columns row c.loop-x.x) (λ x y. y == row && columns x)
    (drawn_at g c.args.shape.now at)
    (λ x y across down.
    ap (λ b. y == row && b)
    (all_after columns span.from span.to g.width c.loop-x.x x c.columns-span.ensures.cut.same past across))
