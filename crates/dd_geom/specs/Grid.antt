-- One value for each point of a surface, row by row: pictures, surfaces and sets of points are grids.
use Rattle.std.specs.Prelude.{◌≡◌, ℕ, ◌+◌, ◌*◌, ◌/◌, ◌%◌, List, map, take, drop, slice_index_or, nat_lt, ◌&&◌, if◌then◌else◌}
use Rattle.std.specs.List.{range_with_len}
use Rattle.dd_geom.specs.declared.rect.Move.{Move}
use Rattle.dd_geom.specs.Rect.{has, source_x, source_y}

pub record Grid (A : Type 0) : Type 0 where
  pub width : ℕ
  pub height : ℕ
  pub cells : List A

-- a grid keeps the width and the height of another
pub record SameSize {A B : Type 0} (old : Grid A) (new : Grid B) : Type 0 where
  pub width : new.width ≡ old.width
  pub height : new.height ≡ old.height

module _ {A : Type 0} where
  -- the grid of a function of the point
  abbrev pub grid : ℕ → ℕ → (ℕ → ℕ → A) → Grid A
  grid w h f = record { width = w; height = h; cells = map (λ k. f (k % w) (k / w)) (range_with_len 0 (w * h)) }

  -- the value at a point, or d outside
  abbrev pub value_at : A → Grid A → ℕ → ℕ → A
  value_at d g x y = if nat_lt x g.width && nat_lt y g.height then slice_index_or g.cells (y * g.width + x) d else d

  -- one row, and all of them
  abbrev pub row : Grid A → ℕ → List A
  row g y = take g.width (drop (y * g.width) g.cells)

  abbrev pub rows : Grid A → List (List A)
  rows g = map (row g) (range_with_len 0 g.height)

  -- a grid after a move: each point of the destination has the value that its source point had
  abbrev pub scrolled : A → Grid A → Move → Grid A
  scrolled d g m =
      grid g.width g.height
      (λ x y. if has m.dest x y then value_at d g (source_x m x) (source_y m y) else value_at d g x y)
