-- A set that has a rectangle's points is the set with them.
use Rattle.std.proofs.Common.{◌≡◌, ℕ, ◌&&◌, ◌||◌, Bool, true, false, leb, ltb, refl, sym, ap, ◌∙◌, subst}
use Rattle.std.proofs.lemmas.Bool.{and_parts, leb-true, ltb-true}
use Rattle.dd_geom.specs.declared.rect.Rect.{Rect}
use Rattle.dd_geom.specs.declared.rect.Sides.{Sides}
use Rattle.dd_geom.specs.Rect.{has, sides}
use Rattle.dd_geom.specs.Grid.{Grid, grid}
use Rattle.dd_geom.proofs.GridLemmas.{grid_from_agree, value_at-grid}
use Rattle.dd_bits.specs.Area.{is_in, with_rect}
use Rattle.dd_region.specs.declared.rows.Rows.{Rows}
use Rattle.dd_region.specs.Rows.{has_point, HasAll}
use Rattle.dd_region.proofs.bands.BandsArea.add.Goals as goal

held_already : (inside held : Bool) → (inside ≡ true → held ≡ true) → held ≡ (inside || held)
held_already true held e = e refl
held_already false held e = refl

has_between : (s : Rows) (r : Rect) (x y : ℕ) → HasAll s (sides r) → has r x y ≡ true → has_point s x y ≡ true
has_between s r x y all t =
    let b : Sides = sides r in
    let upper = and_parts (leb b.left x && ltb x b.right && leb b.top y) (ltb y b.bottom) t in
    let lower = and_parts (leb b.left x && ltb x b.right) (leb b.top y) upper.0 in
    let across = and_parts (leb b.left x) (ltb x b.right) lower.0 in
    all x y (leb-true b.left x across.0) (ltb-true x b.right across.1) (leb-true b.top y lower.1)
    (ltb-true y b.bottom upper.1)

same_with : (w h : ℕ) (s : Rows) (r : Rect) → HasAll s (sides r)
    → grid w h (has_point s) ≡ with_rect (grid w h (has_point s)) r
same_with w h s r all =
    let g : Grid Bool = grid w h (has_point s) in
    grid_from_agree w h (has_point s) (λ x y. has r x y || is_in g x y) (λ x y across down.
    held_already (has r x y) (has_point s x y) (has_between s r x y all)
    ∙ ap (λ (v : Bool). has r x y || v) (sym (value_at-grid false w h (has_point s) x y across down)))

pub returns-then-has_all-clause-ok : goal.returns-then-has_all-clause-ok
returns-then-has_all-clause-ok c =
    let b = c.self.inside in
    subst (λ (g : Grid Bool). g ≡ with_rect g c.args.r) c.self.view_is
    (same_with b.width b.height b.rows c.args.r
    (subst (λ (s : Sides). HasAll b.rows s) c.sides_of-sides.ensures c.if-has_all.ensures))
