-- The grids that a plane's cells are: of no point, with a rectangle painted, and without one.
use Rattle.std.proofs.Common.{◌≡◌, ℕ, ◌*◌, List, Bool, true, false, not, ◌&&◌, ◌||◌, ◌↔◌, IsTrue, cond, length, replicate, get_or, refl, sym, ap, ◌∙◌, arith, inl, inr}
use Rattle.std.specs.List.{list_any}
use Rattle.std.proofs.lemmas.Bool.{cases_Bool, both_ways}
use Rattle.std.proofs.lemmas.List.{length-replicate, get_or-replicate}
use Rattle.std.proofs.lemmas.List.Elements.{All-from_get_or}
use Rattle.std.proofs.lemmas.List.Folds.{list_any_at, list_any_none}
use Rattle.dd_geom.specs.declared.rect.Rect.{Rect}
use Rattle.dd_geom.specs.declared.rect.Sides.{Sides}
use Rattle.dd_geom.specs.Rect.{has, sides, between}
use Rattle.dd_geom.specs.Grid.{Grid, value_at}
use Rattle.dd_geom.proofs.GridLemmas.{length-cells, get_or-cells, grid_from_places, grid_from_agree}
use Rattle.dd_geom.proofs.PaintLemmas.{IsPainted, grid_from_painted}
use Rattle.dd_bits.specs.Area.{IsNowhere, is_in, nowhere, with_rect, without_rect}

abbrev plane : ℕ → ℕ → List Bool → Grid Bool
plane w h cells = record { width = w; height = h; cells = cells }

pub all_false :
    (w h : ℕ) (cells : List Bool) → cells ≡ replicate (w * h) false
    → record { width = w; height = h; cells = cells } ≡ nowhere w h
all_false w h cells e =
    grid_from_places false w h (λ x y. false) cells
    (ap length e ∙ length-replicate (w * h) false)
    (λ k l. ap (λ cs. get_or cs k false) e ∙ get_or-replicate (w * h) k false false l)

or_cond : (a b : Bool) → cond a true b ≡ (a || b)
or_cond true b = refl
or_cond false b = refl

and_cond : (a b : Bool) → cond a false b ≡ (not a && b)
and_cond true b = refl
and_cond false b = refl

pub painted_rect :
    (w h : ℕ) (r : Rect) (s : Sides) (old new : List Bool) (g : Grid Bool) → s ≡ sides r
    → record { width = w; height = h; cells = old } ≡ g → length old ≡ w * h → length new ≡ w * h
    → IsPainted w s true old new → record { width = w; height = h; cells = new } ≡ with_rect g r
painted_rect w h r s old new g e is long_old long_new painted =
    grid_from_painted false w h s true old new long_old long_new painted
    ∙ grid_from_agree w h _ (λ x y. has r x y || is_in (plane w h old) x y) (λ x y a b.
    ap (λ t. cond (between t x y) true (value_at false (plane w h old) x y)) e
    ∙ or_cond (between (sides r) x y) (value_at false (plane w h old) x y))
    ∙ ap (λ v. with_rect v r) is

pub cleared_rect :
    (w h : ℕ) (r : Rect) (s : Sides) (old new : List Bool) (g : Grid Bool) → s ≡ sides r
    → record { width = w; height = h; cells = old } ≡ g → length old ≡ w * h → length new ≡ w * h
    → IsPainted w s false old new → record { width = w; height = h; cells = new } ≡ without_rect g r
cleared_rect w h r s old new g e is long_old long_new painted =
    grid_from_painted false w h s false old new long_old long_new painted
    ∙ grid_from_agree w h _ (λ x y. not (has r x y) && is_in (plane w h old) x y) (λ x y a b.
    ap (λ t. cond (between t x y) false (value_at false (plane w h old) x y)) e
    ∙ and_cond (between (sides r) x y) (value_at false (plane w h old) x y))
    ∙ ap (λ v. without_rect v r) is

-- no cell is marked exactly where no point is in the set
none_marked : (g : Grid Bool) → length g.cells ≡ g.width * g.height → list_any (λ b. b) g.cells ≡ false → IsNowhere g
none_marked g long none =
    grid_from_places false g.width g.height (λ x y. false) g.cells long (λ k l.
    elim (cases_Bool (get_or g.cells k false)) [
      | inl t ↦
          let some : list_any (λ b. b) g.cells ≡ true = list_any_at (λ b. b) g.cells k false (omega arith) t in
          absurd (both_ways (list_any (λ b. b) g.cells) none some)
      | inr e ↦ e
    ])

unmarked : (w h : ℕ) → list_any (λ b. b) (nowhere w h).cells ≡ false
unmarked w h =
    list_any_none (λ b. b) (nowhere w h).cells
    (All-from_get_or (λ b. b ≡ false) (nowhere w h).cells false (λ k l.
    get_or-cells w h (λ x y. false) k false (omega (arith, length-cells w h (λ x y. false)))))

not_true_from : (b : Bool) → IsTrue (not b) → b ≡ false
not_true_from true e = sym e
not_true_from false e = refl

pub blank_test :
    (g : Grid Bool) (some : Bool) → length g.cells ≡ g.width * g.height → some ≡ list_any (λ b. b) g.cells
    → IsTrue (not some) ↔ IsNowhere g
blank_test g some long is = (
  λ t. none_marked g long (sym is ∙ not_true_from some t),
  λ e. ap not (is ∙ ap (λ (v : Grid Bool). list_any (λ b. b) v.cells) e ∙ unmarked g.width g.height),
)
