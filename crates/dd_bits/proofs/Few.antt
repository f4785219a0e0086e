-- How many rectangles a set has at most.
use Rattle.std.proofs.Common.{ℕ, ◌*◌, ◌-◌, ◌≤◌, Bool, true, false, List, [], ◌∷◌, length, if◌then◌else◌, arith, length-append}
use Rattle.std.specs.List.{flat_map, range_with_len}
use Rattle.std.proofs.lemmas.List.FromFn.{length-range_with_len}
use Rattle.dd_geom.specs.declared.rect.Rect.{Rect}
use Rattle.dd_geom.specs.Grid.{Grid}
use Rattle.dd_bits.specs.Area.{is_in}
use Rattle.dd_bits.specs.CanonicalList.{starts_run, run_end, rect_from, run_at, row_runs, starts_band, band_end, band_at, canonical_list}

few_joined :
    (f : ℕ → List Rect) (k : ℕ) → ((x : ℕ) → length (f x) ≤ k) → (xs : List ℕ)
    → length (flat_map f xs) ≤ length xs * k
few_joined f k few [] = omega arith
few_joined f k few (x ∷ xs) = omega (arith, few x, few_joined f k few xs, length-append (f x) (flat_map f xs))

at_most_one : (b : Bool) (r : Rect) → length (if b then r ∷ [] else []) ≤ 1
at_most_one true r = omega arith
at_most_one false r = omega arith

few_in_row : (p : ℕ → Bool) (w top bottom : ℕ) → length (row_runs p w top bottom) ≤ w
few_in_row p w top bottom =
    let one : (x : ℕ) → length (run_at p w top bottom x) ≤ 1 =
    λ x. at_most_one (starts_run p x) (rect_from x top (run_end p x (w - x)) bottom) in
    omega (arith, few_joined (run_at p w top bottom) 1 one (range_with_len 0 w), length-range_with_len 0 w)

few_or_none : (b : Bool) (rs : List Rect) (k : ℕ) → length rs ≤ k → length (if b then rs else []) ≤ k
few_or_none true rs k l = l
few_or_none false rs k l = omega arith

few_in_band : (g : Grid Bool) (y : ℕ) → length (band_at g y) ≤ g.width
few_in_band g y =
    few_or_none (starts_band g y) (row_runs (λ x. is_in g x y) g.width y (band_end g y)) g.width
    (few_in_row (λ x. is_in g x y) g.width y (band_end g y))

-- no more than the surface has points
pub length-list : (g : Grid Bool) → length (canonical_list g) ≤ g.height * g.width
unfolding canonical_list
length-list g =
    let bands = few_joined (band_at g) g.width (few_in_band g) (range_with_len 0 g.height) in
    rw length-range_with_len at bands
