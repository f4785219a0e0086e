-- The canonical list is sorted by top, then left.
use Rattle.std.proofs.Common.{◌≡◌, ℕ, zero, suc, ◌+◌, ◌-◌, pos, ◌≤ℤ◌, List, [], ◌∷◌, ◌++◌, Bool, true, false, if◌then◌else◌, All, refl, sym, arith, inl, inr}
use Rattle.std.proofs.lemmas.Int.{ints}
use Rattle.std.proofs.lemmas.List.Elements.{All-append, All-nil, All-head, All-tail, All-weaker}
use Rattle.dd_geom.specs.declared.rect.Rect.{Rect}
use Rattle.dd_geom.specs.Grid.{Grid}
use Rattle.dd_bits.specs.Area.{is_in}
use Rattle.dd_bits.specs.CanonicalList.{run_end, starts_run, rect_from, run_at, row_runs, starts_band, band_end, band_at, canonical_list, StandsBefore, IsSorted, ListSorted}
use Rattle.dd_bits.proofs.RowRuns.{runs_from}
use Rattle.dd_bits.proofs.Bands.{bands_from}
use Rattle.dd_bits.proofs.Cover.{All-if_one, All-if_list}

-- two sorted lists, all of the first before all of the second
IsSorted-append :
    (rs ss : List Rect) → IsSorted rs → IsSorted ss → All (λ r. All (StandsBefore r) ss) rs → IsSorted (rs ++ ss)
IsSorted-append [] ss a b before = b
IsSorted-append (r ∷ rs) ss a b before = (
  All-append (StandsBefore r) rs ss a.0 (All-head (λ q. All (StandsBefore q) ss) r rs before),
  IsSorted-append rs ss a.1 b (All-tail (λ q. All (StandsBefore q) ss) r rs before),
)

-- a rectangle of a row of top `top`, from column k on
record InRow (top k : ℕ) (r : Rect) : Type 0 where
  top_is : r.top ≡ pos top
  from : pos k ≤ℤ r.left

in_row_weaker : (top k : ℕ) (r : Rect) → InRow top (k + 1) r → InRow top k r
in_row_weaker top k r d = record { top_is = d.top_is; from = omega (arith, ints, d.from) }

run_in_row : (p : ℕ → Bool) (w top bottom k : ℕ) → All (InRow top k) (run_at p w top bottom k)
run_in_row p w top bottom k =
    All-if_one (InRow top k) (starts_run p k) (rect_from k top (run_end p k (w - k)) bottom)
    (record { top_is = refl; from = omega (arith, ints) })

runs_in_row : (p : ℕ → Bool) (w top bottom n k : ℕ) → All (InRow top k) (runs_from p w top bottom k n)
runs_in_row p w top bottom zero k = All-nil (InRow top k)
runs_in_row p w top bottom (suc n) k =
    All-append (InRow top k) (run_at p w top bottom k) _
    (run_in_row p w top bottom k)
    (All-weaker (InRow top (k + 1)) (InRow top k) (in_row_weaker top k) _ (runs_in_row p w top bottom n (k + 1)))

before_in_row :
    (left top right bottom : ℕ) (r : Rect) → InRow top (left + 1) r → StandsBefore (rect_from left top right bottom) r
before_in_row left top right bottom r d = inr (sym d.top_is, omega (arith, ints, d.from))

sorted_if : (b : Bool) (r : Rect) → IsSorted (if b then r ∷ [] else [])
sorted_if true r = (All-nil (StandsBefore r), tt)
sorted_if false r = tt

-- the runs of a row are sorted by left
sorted_row : (p : ℕ → Bool) (w top bottom n k : ℕ) → IsSorted (runs_from p w top bottom k n)
sorted_row p w top bottom zero k = tt
sorted_row p w top bottom (suc n) k =
    let rest : List Rect = runs_from p w top bottom (k + 1) n in
    let r : Rect = rect_from k top (run_end p k (w - k)) bottom in
    IsSorted-append (run_at p w top bottom k) rest
    (sorted_if (starts_run p k) r)
    (sorted_row p w top bottom n (k + 1))
    (All-if_one (λ q. All (StandsBefore q) rest) (starts_run p k) r
    (All-weaker (InRow top (k + 1)) (StandsBefore r) (before_in_row k top (run_end p k (w - k)) bottom) rest
    (runs_in_row p w top bottom n (k + 1))))

-- a rectangle from row k on
record FromRow (k : ℕ) (r : Rect) : Type 0 where
  from : pos k ≤ℤ r.top

from_row_weaker : (k : ℕ) (r : Rect) → FromRow (k + 1) r → FromRow k r
from_row_weaker k r d = record { from = omega (arith, ints, d.from) }

from_row : (k j : ℕ) (r : Rect) → InRow k j r → FromRow k r
from_row k j r d = record { from = omega (arith, ints, d.top_is) }

band_in_row : (g : Grid Bool) (y : ℕ) → All (InRow y 0) (band_at g y)
band_in_row g y =
    All-if_list (InRow y 0) (starts_band g y) (row_runs (λ x. is_in g x y) g.width y (band_end g y))
    (runs_in_row (λ x. is_in g x y) g.width y (band_end g y) g.width 0)

bands_from_row : (g : Grid Bool) (n y : ℕ) → All (FromRow y) (bands_from g y n)
bands_from_row g zero y = All-nil (FromRow y)
bands_from_row g (suc n) y =
    All-append (FromRow y) (band_at g y) _
    (All-weaker (InRow y 0) (FromRow y) (from_row y 0) (band_at g y) (band_in_row g y))
    (All-weaker (FromRow (y + 1)) (FromRow y) (from_row_weaker y) _ (bands_from_row g n (y + 1)))

before_below : (y : ℕ) (r s : Rect) → InRow y 0 r → FromRow (y + 1) s → StandsBefore r s
before_below y r s d f = inl (omega (arith, ints, d.top_is, f.from))

sorted_if_list : (b : Bool) (rs : List Rect) → IsSorted rs → IsSorted (if b then rs else [])
sorted_if_list true rs h = h
sorted_if_list false rs h = tt

sorted_bands : (g : Grid Bool) (n y : ℕ) → IsSorted (bands_from g y n)
sorted_bands g zero y = tt
sorted_bands g (suc n) y =
    let rest : List Rect = bands_from g (y + 1) n in
    let P : Rect → Type 0 = λ r. All (StandsBefore r) rest in
    IsSorted-append (band_at g y) rest
    (sorted_if_list (starts_band g y) _ (sorted_row (λ x. is_in g x y) g.width y (band_end g y) g.width 0))
    (sorted_bands g n (y + 1))
    (All-weaker (InRow y 0) P
    (λ r d. All-weaker (FromRow (y + 1)) (StandsBefore r) (λ s f. before_below y r s d f) rest
    (bands_from_row g n (y + 1)))
    (band_at g y)
    (band_in_row g y))

pub IsSorted-canonical_list : ListSorted
unfolding canonical_list
IsSorted-canonical_list g = sorted_bands g g.height 0
