-- The rows of a set as bands of equal rows.
use Rattle.std.specs.Prelude.{◌≡◌, ℕ, ◌-◌, ◌≤◌, ◌<◌, max, List, [], ◌∷◌, length, slice_index_or, Bool, true, false, nat_lt, if◌then◌else◌, All}
use Rattle.std.specs.List.{AllWithin, slice_range}
use Rattle.dd_geom.specs.declared.rect.Sides.{Sides}
use Rattle.dd_region.specs.declared.run.Run.{Run}
use Rattle.dd_region.specs.declared.rows.Band.{Band}
use Rattle.dd_region.specs.declared.rows.Rows.{Rows}
use Rattle.dd_region.specs.Runs.{in_runs, IsRow}

-- the runs of a band
abbrev pub band_runs : List Run → Band → List Run
band_runs runs b = slice_range runs b.start b.end

-- the runs of row y: those of the first band that ends below it
abbrev pub runs_at : List Run → List Band → ℕ → List Run
runs_at runs [] y = []
runs_at runs (b ∷ bs) y = if nat_lt y b.bottom then band_runs runs b else runs_at runs bs y

abbrev pub row_at : Rows → ℕ → List Run
row_at s y = runs_at s.runs.items s.bands.items y

-- how many rows the bands cover
abbrev pub bands_depth : List Band → ℕ
bands_depth [] = 0
bands_depth (b ∷ bs) = max b.bottom (bands_depth bs)

abbrev pub depth : Rows → ℕ
depth s = bands_depth s.bands.items

-- the runs of the last band; d stands where there is none
abbrev pub last_runs : Rows → Band → List Run
last_runs s d = band_runs s.runs.items (slice_index_or s.bands.items (length s.bands.items - 1) d)

-- a band's runs are some of all, and make a row
pub record IsBand (runs : List Run) (b : Band) : Type 0 where
  pub order : b.start ≤ b.end
  pub within : b.end ≤ length runs
  pub row : IsRow (band_runs runs b)

abbrev pub AreRows : Rows → Type 0
AreRows s = All (IsBand s.runs.items) s.bands.items

-- no row has a run
abbrev pub AreBlank : Rows → Type 0
AreBlank s = (y : ℕ) → y < depth s → row_at s y ≡ []

-- none of the first n bands ends below row y
abbrev pub ArePassed : Rows → ℕ → ℕ → Type 0
ArePassed s n y = AllWithin (λ b. b.bottom ≤ y) s.bands.items 0 n

-- one band more, of these runs and down to row bottom - 1
pub record HasBandMore (old : Rows) (row : List Run) (bottom : ℕ) (new : Rows) : Type 0 where
  pub rows : AreRows new
  pub deep : depth new ≡ bottom
  pub above : (y : ℕ) → y < depth old → row_at new y ≡ row_at old y
  pub last : (y : ℕ) → depth old ≤ y → y < bottom → row_at new y ≡ row

-- the points of rows
abbrev pub has_point : Rows → ℕ → ℕ → Bool
has_point s x y = in_runs (row_at s y) x

-- no row has a column at or past w
abbrev pub AreWithin : Rows → ℕ → Type 0
AreWithin s w = (x y : ℕ) → y < depth s → w ≤ x → has_point s x y ≡ false

-- the points of the rows that are there are those of a function
abbrev pub HavePoints : Rows → (ℕ → ℕ → Bool) → Type 0
HavePoints s f = (x y : ℕ) → y < depth s → has_point s x y ≡ f x y

-- each point between the sides is there
abbrev pub HasAll : Rows → Sides → Type 0
HasAll s sides =
    (x y : ℕ) → sides.left ≤ x → x < sides.right → sides.top ≤ y → y < sides.bottom → has_point s x y ≡ true
