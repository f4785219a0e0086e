-- A set of the points of a surface, kept as bands.
use Rattle.std.specs.Prelude.{◌≡◌, ℕ, Bool}
use Rattle.dd_geom.specs.Rect.{IsSize}
use Rattle.dd_geom.specs.Grid.{Grid, grid}
use Rattle.dd_bits.specs.Area.{is_in}
use Rattle.dd_region.specs.declared.rows.Rows.{Rows}
use Rattle.dd_region.specs.declared.sweep.Patch.{Patch}
use Rattle.dd_region.specs.Rows.{depth, AreRows, AreWithin}
use Rattle.dd_region.specs.Sweep.{with_patch}

-- the bands cover the rows of a surface, and no run goes past its right side
pub record AreKept (w h : ℕ) (s : Rows) : Type 0 where
  pub size : IsSize w h
  pub rows : AreRows s
  pub deep : depth s ≡ h
  pub within : AreWithin s w

-- the set after a patch
abbrev pub patched : Grid Bool → Patch → Grid Bool
patched g p = grid g.width g.height (with_patch p (is_in g))
