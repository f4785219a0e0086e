-- How bands are rounded to tiles, for private functions alone.
use Rattle.std.specs.Prelude.{◌≡◌, ℕ, ◌+◌, ◌-◌, ◌*◌, ◌/◌, ◌<◌, ◌≤◌, List, length, take, slice_index_or, Bool, ◌&&◌, ◌||◌, nat_lt}
use Rattle.std.specs.List.{range_with_len, list_any}
use Rattle.dd_geom.specs.Grid.{grid}
use Rattle.dd_bits.specs.Tiles.{tile_has}
use Rattle.dd_region.specs.declared.run.Run.{Run}
use Rattle.dd_region.specs.Runs.{in_runs, IsRow, BeginBy}
use Rattle.dd_region.specs.declared.rows.Rows.{Rows}
use Rattle.dd_region.specs.Rows.{depth, AreRows, has_point, HavePoints}

-- the columns of a row of w columns whose tile of side t has a column of it
abbrev pub tile_columns : ℕ → ℕ → (ℕ → Bool) → ℕ → Bool
tile_columns t w row x = nat_lt x w && list_any (λ a. row (x / t * t + a)) (range_with_len 0 t)

-- the columns that some of the rows from top to bottom - 1 have
abbrev pub columns_between : Rows → ℕ → ℕ → ℕ → Bool
columns_between s top bottom x = list_any (λ y. has_point s x y) (range_with_len top (bottom - top))

-- the points of a surface of w by h points whose tile of side t has a point of rows
abbrev pub tile_point : ℕ → ℕ → ℕ → Rows → ℕ → ℕ → Bool
tile_point t w h s x y = nat_lt x w && tile_has (grid w h (has_point s)) t (x / t) (y / t)

-- a row made of the first i runs of one row and the first j of another, to which their next runs can be added
pub record IsUnited (one other : List Run) (i j : ℕ) (made : List Run) : Type 0 where
  pub columns : (x : ℕ) → in_runs made x ≡ (in_runs (take i one) x || in_runs (take j other) x)
  pub row : IsRow made
  pub within_first : i ≤ length one
  pub within_second : j ≤ length other
  pub first : (k : ℕ) (d : Run) → i ≤ k → k < length one → BeginBy made (slice_index_or one k d).left
  pub second : (k : ℕ) (d : Run) → j ≤ k → k < length other → BeginBy made (slice_index_or other k d).left

-- rows from top on are one row of tiles, or whole rows of tiles down to where all rows are the same at most
pub record IsTilesEnd (t h top same_to end : ℕ) : Type 0 where
  pub some : top < end
  pub within : end ≤ h
  pub whole : end < h → end / t * t ≡ end
  pub short : top + t < end → end ≤ same_to

-- the rows down to row y - 1 of a set that is rounded
pub record HasTiles (t w h : ℕ) (old : Rows) (y : ℕ) (now : Rows) : Type 0 where
  pub rows : AreRows now
  pub deep : depth now ≡ y
  pub points : HavePoints now (tile_point t w h old)
