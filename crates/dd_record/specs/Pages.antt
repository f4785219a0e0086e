-- The bytes of pixels as they are gathered: of a run of a row, and of the rows of a block. Private calls alone cite
-- these words.
use Rattle.std.specs.Prelude.{ℕ, ◌-◌, nat_lt, if◌then◌else◌, List, [], slice_index_or}
use Rattle.std.specs.List.{flat_map, range_with_len}
use Rattle.dd_geom.specs.declared.rect.Sides.{Sides}
use Rattle.dd_geom.specs.Grid.{Grid, row}
use Rattle.dd_record.specs.Writing.{pixel_bytes}

-- the bytes of each place from one up to another, one after another
abbrev pub pieces : (ℕ → List ℕ) → ℕ → ℕ → List ℕ
pieces piece from to = flat_map piece (range_with_len from (to - from))

-- a row of a surface, and below its last one a row of nothing
abbrev pub row_at : Grid ℕ → ℕ → List ℕ
row_at s y = if nat_lt y s.height then row s y else []

-- the pixel at a place of a row; behind its end they are black
abbrev pub pixel_in : List ℕ → ℕ → List ℕ
pixel_in colours x = pixel_bytes (slice_index_or colours x 0)

-- the pixels of a run
unfoldable pub run_bytes : List ℕ → ℕ → ℕ → List ℕ
run_bytes colours left right = pieces (pixel_in colours) left right

-- the pixels between four sides, row by row
unfoldable pub block_bytes : Grid ℕ → Sides → List ℕ
block_bytes s sides = pieces (λ y. run_bytes (row_at s y) sides.left sides.right) sides.top sides.bottom
