-- Bands as the grid of a set.
use Rattle.std.proofs.Common.{◌≡◌, ℕ, ◌+◌, ◌-◌, ◌/◌, ◌<◌, ◌≤◌, ℤ, pos, negsuc, [], Bool, true, false, ◌&&◌, nat_le, nat_lt, sym, ap, ◌∙◌, refl, subst, arith, inl, inr}
use Rattle.std.proofs.lemmas.Bool.{and_parts, leb-true, ltb-true, cases_Bool, cond-true, cond-false, lt-ltb}
use Rattle.std.proofs.lemmas.Bool.Decides.{nat_tests}
use Rattle.dd_geom.specs.declared.rect.Move.{Move}
use Rattle.dd_geom.specs.declared.rect.Sides.{Sides}
use Rattle.dd_geom.specs.Rect.{between, AreInside, place, sides, spans_inside, is_inside, source_rect, is_move_inside}
use Rattle.dd_geom.specs.Grid.{Grid, grid}
use Rattle.dd_geom.proofs.GridLemmas.{value_at-grid, grid_from_agree}
use Rattle.dd_geom.proofs.RectLemmas.{IsMoveInside, IsMoveInside-test}
use Rattle.dd_bits.specs.Area.{is_in, nowhere}
use Rattle.dd_bits.specs.Tiles.{tile_has, tiles}
use Rattle.dd_region.specs.declared.rows.Rows.{Rows}
use Rattle.dd_region.specs.declared.sweep.Inside.{Inside}
use Rattle.dd_region.specs.declared.sweep.Inside.TheVariants.{Nothing, Whole, Source}
use Rattle.dd_region.specs.declared.sweep.Patch.{Patch}
use Rattle.dd_region.specs.Runs.{in_runs}
use Rattle.dd_region.specs.Rows.{row_at, depth, has_point}
use Rattle.dd_region.specs.Sweep.{inside_has, with_patch, HasSource, IsPatch, HasPatch}
use Rattle.dd_region.specs.Tiling.{HasTiles}
use Rattle.dd_region.specs.Kept.{patched}

-- a point between four sides
record IsBetween (s : Sides) (x y : ℕ) : Type 0 where
  pub left : s.left ≤ x
  pub right : x < s.right
  pub top : s.top ≤ y
  pub bottom : y < s.bottom

IsBetween-test : (s : Sides) (x y : ℕ) → between s x y ≡ true → IsBetween s x y
IsBetween-test s x y e =
    let most = and_parts (nat_le s.left x && nat_lt x s.right && nat_le s.top y) (nat_lt y s.bottom) e in
    let across = and_parts (nat_le s.left x && nat_lt x s.right) (nat_le s.top y) most.0 in
    let first = and_parts (nat_le s.left x) (nat_lt x s.right) across.0 in
    record {
      left = leb-true s.left x first.0;
      right = ltb-true x s.right first.1;
      top = leb-true s.top y across.1;
      bottom = ltb-true y s.bottom most.1;
    }

-- what comes between the sides is told by the points of the surface alone
inside-same :
    (i : Inside) (s : Sides) (w h x y : ℕ) (f : ℕ → ℕ → Bool) → HasSource i s w h → IsBetween s x y
    → inside_has i s f x y ≡ inside_has i s (is_in (grid w h f)) x y
inside-same Nothing s w h x y f has b = refl
inside-same Whole s w h x y f has b = refl
inside-same (Source column row) s w h x y f has b =
    sym (value_at-grid false w h f (x + column - s.left) (y + row - s.top)
    (omega (arith, has.0, b.left, b.right)) (omega (arith, has.1, b.top, b.bottom)))

patch-same :
    (p : Patch) (w h x y : ℕ) (f : ℕ → ℕ → Bool) → IsPatch p w h → x < w → y < h
    → with_patch p f x y ≡ with_patch p (is_in (grid w h f)) x y
patch-same p w h x y f is a b =
    elim (cases_Bool (between p.sides x y)) [
      | inl e ↦ cond-true _ _ _ e
          ∙ inside-same p.inside p.sides w h x y f is.source (IsBetween-test p.sides x y e)
          ∙ sym (cond-true _ _ _ e)
      | inr e ↦ cond-false _ _ _ e ∙ sym (value_at-grid false w h f x y a b) ∙ sym (cond-false _ _ _ e)
    ]

-- rows with a patch are the set with it
pub patched_grid :
    (p : Patch) (w h : ℕ) (old new : Rows) (g : Grid Bool) → grid w h (has_point old) ≡ g → IsPatch p w h
    → depth old ≡ h → HasPatch p old (depth old) new → grid w h (has_point new) ≡ patched g p
patched_grid p w h old new g is patch deep has =
    grid_from_agree w h (has_point new) (with_patch p (is_in (grid w h (has_point old)))) (λ x y a b.
    has.points x y (omega (arith, has.deep)) ∙ patch-same p w h x y (has_point old) patch a b)
    ∙ ap (λ v. patched v p) is

-- rows that have no column are the empty set
pub empty_grid :
    (w h : ℕ) (s : Rows) → ((y : ℕ) → y < h → row_at s y ≡ []) → grid w h (has_point s) ≡ nowhere w h
empty_grid w h s none =
    grid_from_agree w h (has_point s) (λ x y. false) (λ x y a b. ap (λ r. in_runs r x) (none y b))

-- rounded rows are the rounded set
pub tiles_grid :
    (t w h : ℕ) (old new : Rows) (g : Grid Bool) → grid w h (has_point old) ≡ g → HasTiles t w h old h new
    → grid w h (has_point new) ≡ tiles t g
unfolding tiles
tiles_grid t w h old new g is has =
    grid_from_agree w h (has_point new) (λ x y. tile_has (grid w h (has_point old)) t (x / t) (y / t)) (λ x y a b.
    has.points x y (omega (arith, has.deep))
    ∙ ap (λ c. c && tile_has (grid w h (has_point old)) t (x / t) (y / t)) (lt-ltb x w a))
    ∙ ap (tiles t) is

-- a span inside begins before it ends
span_some : (from to : ℤ) (n : ℕ) → spans_inside from to n ≡ true → place from < place to
span_some (pos a) (pos b) n e = grind (arith, nat_tests)
span_some (pos a) (negsuc b) n e = absurd (grind (arith, nat_tests))
span_some (negsuc a) to n e = absurd (grind (arith, nat_tests))

-- a move that lies inside is a patch
pub IsPatch-move :
    (m : Move) (w h : ℕ) (p : Patch) → is_move_inside m w h ≡ true → p.sides ≡ sides m.dest
    → p.inside ≡ Source (place m.source.x) (place m.source.y) → IsPatch p w h
IsPatch-move m w h p e is from =
    let inside : IsMoveInside m w h = IsMoveInside-test m w h e in
    let dest = and_parts (is_inside m.dest w h) (is_inside (source_rect m) w h) e in
    let across = and_parts (spans_inside m.dest.left m.dest.right w) (spans_inside m.dest.top m.dest.bottom h) dest.0 in
    let there : HasSource (Source (place m.source.x) (place m.source.y)) (sides m.dest) w h =
    (inside.across, inside.down) in
    record {
      sides = subst (λ s. AreInside s w h) (sym is) inside.dest;
      some = subst (λ (s : Sides). s.left < s.right) (sym is) (span_some m.dest.left m.dest.right w across.0);
      source = subst (λ s. HasSource p.inside s w h) (sym is)
          (subst (λ i. HasSource i (sides m.dest) w h) (sym from) there);
    }
