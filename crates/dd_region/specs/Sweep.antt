-- A set with other points between four sides, row by row.
use Rattle.std.specs.Prelude.{◌≡◌, ℕ, ◌+◌, ◌-◌, ◌<◌, ◌≤◌, Bool, true, false, if◌then◌else◌, ⊤}
use Rattle.dd_geom.specs.declared.rect.Sides.{Sides}
use Rattle.dd_geom.specs.Rect.{between, AreInside}
use Rattle.dd_region.specs.declared.sweep.Inside.{Inside}
use Rattle.dd_region.specs.declared.sweep.Inside.TheVariants.{Nothing, Whole, Source}
use Rattle.dd_region.specs.declared.sweep.Patch.{Patch}
use Rattle.dd_region.specs.declared.sweep.Step.{Step}
use Rattle.dd_region.specs.declared.rows.Rows.{Rows}
use Rattle.dd_region.specs.Rows.{row_at, depth, AreRows, ArePassed, has_point, HavePoints}

-- whether a point between the sides is in the new set
abbrev pub inside_has : Inside → Sides → (ℕ → ℕ → Bool) → ℕ → ℕ → Bool
inside_has Nothing s old x y = false
inside_has Whole s old x y = true
inside_has (Source column row) s old x y = old (x + column - s.left) (y + row - s.top)

-- the points of a set after a patch
abbrev pub with_patch : Patch → (ℕ → ℕ → Bool) → ℕ → ℕ → Bool
with_patch p old x y = if between p.sides x y then inside_has p.inside p.sides old x y else old x y

-- a source reaches as far as the sides are apart
abbrev pub HasSource : Inside → Sides → ℕ → ℕ → Type 0
HasSource Nothing s w h = ⊤
HasSource Whole s w h = ⊤
HasSource (Source column row) s w h = (column + (s.right - s.left) ≤ w) × (row + (s.bottom - s.top) ≤ h)

-- a patch of a surface of w by h points
pub record IsPatch (p : Patch) (w h : ℕ) : Type 0 where
  pub sides : AreInside p.sides w h
  pub some : p.sides.left < p.sides.right
  pub source : HasSource p.inside p.sides w h

-- none of the first n bands ends below the source of row y
abbrev pub IsSourcePassed : Inside → Sides → Rows → ℕ → ℕ → Type 0
IsSourcePassed Nothing s old n y = ⊤
IsSourcePassed Whole s old n y = ⊤
IsSourcePassed (Source column row) s old n y = ArePassed old n (y + row - s.top)

-- a row that was written for row y serves for some rows from there on, all between the sides, and no band that was
-- passed has the source of row y
pub record IsStep (i : Inside) (s : Sides) (old : Rows) (y : ℕ) (step : Step) : Type 0 where
  pub below : y < step.bottom
  pub within : step.bottom ≤ s.bottom
  pub passed : IsSourcePassed i s old step.band y

-- rows that are as before, and then as those of other rows, down to row y - 1
pub record HasRowsOf (other before : Rows) (y : ℕ) (now : Rows) : Type 0 where
  pub rows : AreRows now
  pub deep : depth now ≡ y
  pub above : (z : ℕ) → z < depth before → row_at now z ≡ row_at before z
  pub added : (z : ℕ) → depth before ≤ z → z < y → row_at now z ≡ row_at other z

-- the rows down to row y - 1 of a set with a patch
pub record HasPatch (p : Patch) (old : Rows) (y : ℕ) (now : Rows) : Type 0 where
  pub rows : AreRows now
  pub deep : depth now ≡ y
  pub points : HavePoints now (with_patch p (has_point old))
