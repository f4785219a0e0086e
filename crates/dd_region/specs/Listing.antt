-- How the list is made of bands, for private functions alone.
use Rattle.std.specs.Prelude.{◌≡◌, ◌≢◌, ℕ, ◌<◌, ◌≤◌}
use Rattle.dd_geom.specs.declared.rect.Rect.{Rect}
use Rattle.dd_bits.specs.CanonicalList.{rect_from}
use Rattle.dd_region.specs.declared.run.Run.{Run}
use Rattle.dd_region.specs.declared.rows.Rows.{Rows}
use Rattle.dd_region.specs.Rows.{row_at, depth}

-- a run in the rows from top to bottom - 1
abbrev pub run_rect : ℕ → ℕ → Run → Rect
run_rect top bottom r = rect_from r.left top r.right bottom

-- the rows from row y to row e - 1 have the same runs, and the row below them has others
pub record IsSameTo (s : Rows) (y e : ℕ) : Type 0 where
  pub some : y < e
  pub within : e ≤ depth s
  pub same : (z : ℕ) → y ≤ z → z < e → row_at s z ≡ row_at s y
  pub below : e < depth s → row_at s e ≢ row_at s y
