-- Small sets rounded to tiles on a surface of 4 by 3, computed from the definition.
use Rattle.std.proofs.Common.{◌≡◌, ℕ, pos, refl}
use Rattle.dd_geom.specs.declared.rect.Rect.{Rect}
use Rattle.dd_bits.specs.Area.{nowhere, with_rect}
use Rattle.dd_bits.specs.Tiles.{tiles}

rect : ℕ → ℕ → ℕ → ℕ → Rect
rect l t r b = record { left = pos l; top = pos t; right = pos r; bottom = pos b }

-- the empty set has no tile
nothing : tiles 2 (nowhere 4 3) ≡ nowhere 4 3
unfolding tiles
nothing = refl

-- tiles of one point change nothing
points : tiles 1 (with_rect (nowhere 4 3) (rect 1 0 3 2)) ≡ with_rect (nowhere 4 3) (rect 1 0 3 2)
unfolding tiles rect
points = refl

-- one point takes its whole tile, which stands where the surface's corner has it
one_point : tiles 2 (with_rect (nowhere 4 3) (rect 3 1 4 2)) ≡ with_rect (nowhere 4 3) (rect 2 0 4 2)
unfolding tiles rect
one_point = refl

-- four points about the corner of four tiles take all four; the lower two are cut at the surface
four_tiles : tiles 2 (with_rect (nowhere 4 3) (rect 1 1 3 3)) ≡ with_rect (nowhere 4 3) (rect 0 0 4 3)
unfolding tiles rect
four_tiles = refl

-- the last tile of a row is cut at the surface's right side, here to one column
right_edge : tiles 3 (with_rect (nowhere 4 3) (rect 3 2 4 3)) ≡ with_rect (nowhere 4 3) (rect 3 0 4 3)
unfolding tiles rect
right_edge = refl

-- the last row of tiles is cut at the surface's lower side
lower_edge : tiles 2 (with_rect (nowhere 4 3) (rect 1 2 2 3)) ≡ with_rect (nowhere 4 3) (rect 0 2 2 3)
unfolding tiles rect
lower_edge = refl

-- one tile over the whole surface
all : tiles 8 (with_rect (nowhere 4 3) (rect 2 1 3 2)) ≡ with_rect (nowhere 4 3) (rect 0 0 4 3)
unfolding tiles rect
all = refl
