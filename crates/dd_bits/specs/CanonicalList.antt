-- The canonical list of a set of points: for each band of equal rows one rectangle for each maximal run of columns,
-- sorted by top, then left. (The y-x banded form in which X11 and pixman keep their regions.)
use Rattle.std.specs.Prelude.{◌≡◌, ℕ, zero, suc, ◌+◌, ◌-◌, ◌*◌, pos, List, [], ◌∷◌, Bool, ◌&&◌, not, nat_lt, if◌then◌else◌, IsTrue, All, count_by, length, ◌≢◌, ◌≤◌, ◌<◌, ◌<ℤ◌, ◌↔◌, ◌⊎◌, ⊤, true, false, slice_index_or}
use Rattle.std.specs.List.{flat_map, range_with_len, list_all, Contains}
use Rattle.dd_geom.specs.declared.rect.Rect.{Rect}
use Rattle.dd_geom.specs.Rect.{has, is_inside}
use Rattle.dd_geom.specs.Grid.{Grid}
use Rattle.dd_bits.specs.Area.{is_in}

-- a row is a test of its columns: the first column from k on that is not marked, at most n columns further
unfoldable pub run_end : (ℕ → Bool) → ℕ → ℕ → ℕ
run_end p k zero = k
run_end p k (suc n) = if p k then run_end p (k + 1) n else k

-- a run starts at a marked column with no marked column just before it
abbrev pub starts_run : (ℕ → Bool) → ℕ → Bool
starts_run p x = p x && not (nat_lt 0 x && p (x - 1))

abbrev pub rect_from : ℕ → ℕ → ℕ → ℕ → Rect
rect_from left top right bottom = record { left = pos left; top = pos top; right = pos right; bottom = pos bottom }

-- the rectangle, of the rows from top to bottom - 1, of the run that starts at column x of a row of w columns, if one
-- does
abbrev pub run_at : (ℕ → Bool) → ℕ → ℕ → ℕ → ℕ → List Rect
run_at p w top bottom x = if starts_run p x then rect_from x top (run_end p x (w - x)) bottom ∷ [] else []

-- the rectangles of a row's runs, from left to right
abbrev pub row_runs : (ℕ → Bool) → ℕ → ℕ → ℕ → List Rect
row_runs p w top bottom = flat_map (run_at p w top bottom) (range_with_len 0 w)

-- two rows have the same points
abbrev pub alike : Bool → Bool → Bool
alike a b = if a then b else not b

unfoldable pub same_rows : Grid Bool → ℕ → ℕ → Bool
same_rows g y z = list_all (λ x. alike (is_in g x y) (is_in g x z)) (range_with_len 0 g.width)

-- a band starts at the first row, and at each row that differs from the one above it
abbrev pub starts_band : Grid Bool → ℕ → Bool
starts_band g y = not (nat_lt 0 y && same_rows g (y - 1) y)

-- the first row below row y that differs from it, or the surface's end
abbrev pub band_end : Grid Bool → ℕ → ℕ
band_end g y = run_end (same_rows g y) (y + 1) (g.height - (y + 1))

-- the rectangles of the band that starts at row y, if one does
abbrev pub band_at : Grid Bool → ℕ → List Rect
band_at g y = if starts_band g y then row_runs (λ x. is_in g x y) g.width y (band_end g y) else []

unfoldable pub canonical_list : Grid Bool → List Rect
canonical_list g = flat_map (band_at g) (range_with_len 0 g.height)

-- whether a column of a row, a list of cells, is marked; none past its end is
abbrev pub is_marked : List Bool → ℕ → Bool
is_marked cells x = slice_index_or cells x false

-- none of the columns from `from` to `to - 1` is so marked
abbrev pub HasNone : (ℕ → Bool) → Bool → ℕ → ℕ → Type 0
HasNone p marked from to = (x : ℕ) → from ≤ x → x < to → p x ≢ marked

-- a run of marked columns with no marked column just after it
pub record IsRun (p : ℕ → Bool) (left right : ℕ) : Type 0 where
  pub some : left < right
  pub marked : (x : ℕ) → left ≤ x → x < right → p x ≡ true
  pub end : p right ≡ false

-- each point of the set lies in exactly one rectangle of the list, and no other point lies in any
abbrev pub ListCovers : Type 0
ListCovers = (g : Grid Bool) (x y : ℕ) → count_by (λ r. has r x y) (canonical_list g) ≡ (if is_in g x y then 1 else 0)

-- each rectangle of the list lies inside the surface
abbrev pub ListInside : Type 0
ListInside = (g : Grid Bool) → All (λ r. IsTrue (is_inside r g.width g.height)) (canonical_list g)

-- columns from left to right - 1 are a maximal run of row y
pub record IsMaximalRun (g : Grid Bool) (y left right : ℕ) : Type 0 where
  pub run : IsRun (λ x. is_in g x y) left right
  pub before : 0 < left → is_in g (left - 1) y ≡ false

-- rows from top to bottom - 1 have the same points, and so has neither the row above them nor the one below
pub record IsBand (g : Grid Bool) (top bottom : ℕ) : Type 0 where
  pub some : top < bottom
  pub within : bottom ≤ g.height
  pub same : (y : ℕ) → top ≤ y → y < bottom → same_rows g top y ≡ true
  pub above : 0 < top → same_rows g (top - 1) top ≡ false
  pub below : bottom < g.height → same_rows g top bottom ≡ false

-- a rectangle is in the list exactly where it is a maximal run of a band
abbrev pub ListHas : Type 0
ListHas =
    (g : Grid Bool) (left top right bottom : ℕ)
    → Contains (canonical_list g) (rect_from left top right bottom)
    ↔ (IsMaximalRun g top left right × IsBand g top bottom)

-- the first rectangle stands before the second: by top, then left
abbrev pub StandsBefore : Rect → Rect → Type 0
StandsBefore r s = (r.top <ℤ s.top) ⊎ ((r.top ≡ s.top) × (r.left <ℤ s.left))

abbrev pub IsSorted : List Rect → Type 0
IsSorted [] = ⊤
IsSorted (r ∷ rs) = All (StandsBefore r) rs × IsSorted rs

abbrev pub ListSorted : Type 0
ListSorted = (g : Grid Bool) → IsSorted (canonical_list g)

-- two sets of one surface are equal exactly where their lists are
abbrev pub ListTells : Type 0
ListTells =
    (g h : Grid Bool) → length g.cells ≡ g.width * g.height → length h.cells ≡ h.width * h.height
    → g.width ≡ h.width → g.height ≡ h.height → (g ≡ h) ↔ (canonical_list g ≡ canonical_list h)
