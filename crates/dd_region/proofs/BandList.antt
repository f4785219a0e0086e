-- The list of a set that is kept as bands.
use Rattle.std.proofs.Common.{◌≡◌, ◌≢◌, ℕ, ◌<◌, ◌≤◌, List, [], ◌++◌, ◌↔◌, Bool, true, false, map, length, sym, ap, ◌∙◌, refl, subst, arith, inl, inr}
use Rattle.std.proofs.Math.Path.{fun_ext}
use Rattle.std.specs.Prelude.{All}
use Rattle.std.proofs.lemmas.Bool.{cases_lt}
use Rattle.std.proofs.lemmas.List.Elements.{All-weaker}
use Rattle.std.proofs.lemmas.List.FromFn.{length-map-range_with_len}
use Rattle.dd_geom.specs.declared.rect.Rect.{Rect}
use Rattle.dd_geom.specs.declared.rect.TheConstants.{MAX_SIDE}
use Rattle.dd_geom.specs.Grid.{Grid, grid, row}
use Rattle.dd_geom.proofs.GridLemmas.{length-cells, value_at-grid, value_at-right, value_at-below, row-grid}
use Rattle.dd_bits.specs.Area.{is_in, IsArea, IsNowhere, nowhere}
use Rattle.dd_bits.specs.CanonicalList.{row_runs, same_rows, band_end, is_marked}
use Rattle.dd_bits.proofs.RowRuns.{not_true, row_runs-row}
use Rattle.dd_bits.proofs.Bands.{same_rows-at, same_rows-from, band_end-found, IsListed, IsListed-more}
use Rattle.dd_region.specs.declared.run.Run.{Run}
use Rattle.dd_region.specs.declared.rows.Rows.{Rows}
use Rattle.dd_region.specs.Runs.{in_runs, IsRow}
use Rattle.dd_region.specs.Rows.{row_at, has_point, AreBlank}
use Rattle.dd_region.specs.Kept.{AreKept}
use Rattle.dd_region.specs.Listing.{run_rect, IsSameTo}
use Rattle.dd_region.proofs.BandLemmas.{IsRow-at}
use Rattle.dd_region.proofs.KeptLemmas.{empty_grid}
use Rattle.dd_region.proofs.ListLemmas.{ends_within, runs_of_row, rows_tell}

-- rows that keep a set
pub record AreRowsOf (g : Grid Bool) (s : Rows) : Type 0 where
  pub kept : AreKept g.width g.height s
  pub points : grid g.width g.height (has_point s) ≡ g

pub is_in-point : (g : Grid Bool) (s : Rows) (x y : ℕ) → AreRowsOf g s → y < g.height → is_in g x y ≡ has_point s x y
is_in-point g s x y of l =
    elim (cases_lt x g.width) [
      | inl a ↦ ap (λ (v : Grid Bool). is_in v x y) (sym of.points)
          ∙ value_at-grid false g.width g.height (has_point s) x y a l
      | inr a ↦ value_at-right false g x y a ∙ sym (of.kept.within x y (omega (arith, of.kept.deep)) a)
    ]

row_is : (g : Grid Bool) (s : Rows) (y : ℕ) → AreRowsOf g s → IsRow (row_at s y)
row_is g s y of = IsRow-at s y of.kept.rows

pub within_is :
    (g : Grid Bool) (s : Rows) (y : ℕ) → AreRowsOf g s → y < g.height
    → All (λ r. r.right ≤ g.width) (row_at s y)
within_is g s y of l =
    ends_within (row_at s y) g.width (row_is g s y of) (λ x a. of.kept.within x y (omega (arith, of.kept.deep)) a)

-- rows with the same runs are the same, and others aren't
rows_same :
    (g : Grid Bool) (s : Rows) (y z : ℕ) → AreRowsOf g s → y < g.height → z < g.height → row_at s z ≡ row_at s y
    → same_rows g y z ≡ true
rows_same g s y z of a b e =
    same_rows-from g y z (λ x l.
    is_in-point g s x y of a ∙ ap (λ r. in_runs r x) (sym e) ∙ sym (is_in-point g s x z of b))

rows_differ :
    (g : Grid Bool) (s : Rows) (y z : ℕ) → AreRowsOf g s → y < g.height → z < g.height → row_at s z ≢ row_at s y
    → same_rows g y z ≡ false
rows_differ g s y z of a b h =
    not_true (same_rows g y z) (λ e.
    h (rows_tell (row_at s z) (row_at s y) g.width (row_is g s z of) (row_is g s y of) (within_is g s z of b)
    (within_is g s y of a)
    (λ x. sym (is_in-point g s x z of b) ∙ sym (same_rows-at g y z e x) ∙ is_in-point g s x y of a)))

-- rows with the same runs are one band
band_end-same :
    (g : Grid Bool) (s : Rows) (y e : ℕ) → AreRowsOf g s → IsSameTo s y e → e ≡ band_end g y
band_end-same g s y e of is =
    let top : y < g.height = omega (arith, is.some, is.within, of.kept.deep) in
    band_end-found g y e is.some (omega (arith, is.within, of.kept.deep))
    (λ z a b. rows_same g s y z of top (omega (arith, is.within, of.kept.deep)) (is.same z (omega arith) b))
    (λ l. rows_differ g s y e of top l (is.below (omega (arith, of.kept.deep))))

long_row : (g : Grid Bool) (s : Rows) (y : ℕ) → AreRowsOf g s → y < g.height → length (row g y) ≡ g.width
long_row g s y of l =
    ap (λ (v : Grid Bool). length (row v y)) (sym of.points)
    ∙ ap length (row-grid g.width g.height (has_point s) y l)
    ∙ length-map-range_with_len (λ x. has_point s x y) 0 g.width

-- the rectangles of one band more
pub listed_more :
    (g : Grid Bool) (s : Rows) (y e : ℕ) (now next : List Rect) → AreRowsOf g s → IsSameTo s y e
    → next ≡ now ++ map (run_rect y e) (row_at s y) → IsListed g y now → IsListed g e next
listed_more g s y e now next of is pushed listed =
    let l : y < g.height = omega (arith, is.some, is.within, of.kept.deep) in
    let long : length (row g y) ≡ g.width = long_row g s y of l in
    let rects : map (run_rect y e) (row_at s y) ≡ row_runs (is_marked (row g y)) (length (row g y)) y e =
    sym (runs_of_row (row_at s y) g.width y e (row_is g s y of) (within_is g s y of l))
    ∙ ap (λ p. row_runs p g.width y e) (fun_ext (λ x. sym (is_in-point g s x y of l)))
    ∙ sym (row_runs-row g y y e (row g y) refl long l) in
    IsListed-more g y e (row g y) now next (pushed ∙ ap (λ v. now ++ v) rects) listed (band_end-same g s y e of is) refl
    long l

-- what is kept as bands is a set of a surface, and no run ends past the longest side
pub AreRowsOf-from :
    (w h : ℕ) (s : Rows) (g : Grid Bool) → AreKept w h s → grid w h (has_point s) ≡ g → AreRowsOf g s
AreRowsOf-from w h s g kept is = record {
  kept = subst (λ (v : Grid Bool). AreKept v.width v.height s) is kept;
  points = subst (λ (v : Grid Bool). grid v.width v.height (has_point s) ≡ v) is refl;
}

pub IsArea-kept : (g : Grid Bool) (s : Rows) → AreRowsOf g s → IsArea g
IsArea-kept g s of =
    subst IsArea of.points
    (record { size = of.kept.size; whole = length-cells g.width g.height (has_point s) })

pub ends_short :
    (g : Grid Bool) (s : Rows) (y : ℕ) (runs : List Run) → AreRowsOf g s → y < g.height → runs ≡ row_at s y
    → All (λ r. r.right ≤ MAX_SIDE) runs
ends_short g s y runs of l e =
    subst (All (λ r. r.right ≤ MAX_SIDE)) (sym e)
    (All-weaker (λ (r : Run). r.right ≤ g.width) (λ (r : Run). r.right ≤ MAX_SIDE)
    (λ r a. omega (arith, a, of.kept.size.width)) (row_at s y) (within_is g s y of l))

-- the empty set is kept as rows that have no run
is_in_nowhere : (w h x y : ℕ) → is_in (nowhere w h) x y ≡ false
is_in_nowhere w h x y =
    elim (cases_lt x w) [
      | inl a ↦ elim (cases_lt y h) [
        | inl b ↦ value_at-grid false w h (λ x y. false) x y a b
        | inr b ↦ value_at-below false (nowhere w h) x y b
      ]
      | inr a ↦ value_at-right false (nowhere w h) x y a
    ]

is_in-nowhere : (g : Grid Bool) (x y : ℕ) → IsNowhere g → is_in g x y ≡ false
is_in-nowhere g x y none =
    ap (λ v. is_in v x y) none ∙ is_in_nowhere g.width g.height x y

blank_row : (g : Grid Bool) (s : Rows) (y : ℕ) → AreRowsOf g s → IsNowhere g → y < g.height → row_at s y ≡ []
blank_row g s y of none l =
    rows_tell (row_at s y) [] g.width (row_is g s y of)
    (record { some = λ k d a. absurd (omega arith); apart = λ i j d a b. absurd (omega arith) })
    (within_is g s y of l)
    (λ k d a. absurd (omega arith))
    (λ x. sym (is_in-point g s x y of l) ∙ is_in-nowhere g x y none)

pub blank_test : (g : Grid Bool) (s : Rows) → AreRowsOf g s → AreBlank s ↔ IsNowhere g
blank_test g s of = (
  λ blank. sym of.points
      ∙ empty_grid g.width g.height s (λ y l. blank y (omega (arith, of.kept.deep))),
  λ none y l. blank_row g s y of none (omega (arith, of.kept.deep)),
)
