-- The numbers of the limits and of the metadata, rectangles and a move as bytes, and a small grid, scrolled over itself.
use Rattle.std.proofs.Common.{◌≡◌, ℕ, true, false, pos, negsuc, [], ◌∷◌, refl}
use Rattle.dd_geom.specs.declared.rect.Rect.{Rect}
use Rattle.dd_geom.specs.declared.rect.Move.{Move}
use Rattle.dd_geom.specs.declared.rect.TheConstants.{MAX_SIDE, MAX_PIXELS, RECT_BYTES, MOVE_BYTES}
use Rattle.dd_geom.specs.Rect.{is_move_inside, points}
use Rattle.dd_geom.specs.Bytes.{rect_bytes, move_bytes, rect_of}
use Rattle.dd_geom.specs.Grid.{Grid, rows, scrolled}

-- the limits of a mode, and the bytes of a rectangle and of a move
max_side : MAX_SIDE ≡ 8192
max_side = refl

max_pixels : MAX_PIXELS ≡ 16777216
max_pixels = refl

rect_size : RECT_BYTES ≡ 16
rect_size = refl

move_size : MOVE_BYTES ≡ 24
move_size = refl

abbrev rect : ℕ → ℕ → ℕ → ℕ → Rect
rect l t r b = record { left = pos l; top = pos t; right = pos r; bottom = pos b }

abbrev move : ℕ → ℕ → Rect → Move
move x y dest = record { source = record { x = pos x; y = pos y }; dest = dest }

-- the sides in their order, each with its lowest byte first; negative ones, and the ends of 32 bits
small_sides :
    rect_bytes (rect 1 1 3 2)
    ≡ 1 ∷ 0 ∷ 0 ∷ 0 ∷ 1 ∷ 0 ∷ 0 ∷ 0 ∷ 3 ∷ 0 ∷ 0 ∷ 0 ∷ 2 ∷ 0 ∷ 0 ∷ 0 ∷ []
unfolding rect_bytes
small_sides = refl

end_sides :
    rect_bytes (record { left = negsuc 2147483647; top = negsuc 0; right = pos 2147483647; bottom = pos 16909060 })
    ≡ 0 ∷ 0 ∷ 0 ∷ 128 ∷ 255 ∷ 255 ∷ 255 ∷ 255 ∷ 255 ∷ 255 ∷ 255 ∷ 127 ∷ 4 ∷ 3 ∷ 2 ∷ 1 ∷ []
unfolding rect_bytes
end_sides = refl

end_bytes :
    rect_of (0 ∷ 0 ∷ 0 ∷ 128 ∷ 255 ∷ 255 ∷ 255 ∷ 255 ∷ 255 ∷ 255 ∷ 255 ∷ 127 ∷ 4 ∷ 3 ∷ 2 ∷ 1 ∷ [])
    ≡ record { left = negsuc 2147483647; top = negsuc 0; right = pos 2147483647; bottom = pos 16909060 }
unfolding rect_of
end_bytes = refl

-- the source stands before the destination
source_first :
    move_bytes (move 6 5 (rect 1 2 3 4))
    ≡ 6 ∷ 0 ∷ 0 ∷ 0 ∷ 5 ∷ 0 ∷ 0 ∷ 0 ∷ 1 ∷ 0 ∷ 0 ∷ 0 ∷ 2 ∷ 0 ∷ 0 ∷ 0 ∷ 3 ∷ 0 ∷ 0 ∷ 0 ∷ 4 ∷ 0 ∷ 0 ∷ 0 ∷ []
unfolding move_bytes rect_bytes
source_first = refl

-- the digits say the row and the column
abbrev numbers : Grid ℕ
numbers =
    record { width = 4; height = 3; cells = 11 ∷ 12 ∷ 13 ∷ 14 ∷ 21 ∷ 22 ∷ 23 ∷ 24 ∷ 31 ∷ 32 ∷ 33 ∷ 34 ∷ [] }

-- one column right, one left, one row down, one up: each cell as it was before the move
right :
    rows (scrolled 0 numbers (move 0 0 (rect 1 0 4 2)))
    ≡ (11 ∷ 11 ∷ 12 ∷ 13 ∷ []) ∷ (21 ∷ 21 ∷ 22 ∷ 23 ∷ []) ∷ (31 ∷ 32 ∷ 33 ∷ 34 ∷ []) ∷ []
right = refl

left :
    rows (scrolled 0 numbers (move 1 1 (rect 0 1 3 3)))
    ≡ (11 ∷ 12 ∷ 13 ∷ 14 ∷ []) ∷ (22 ∷ 23 ∷ 24 ∷ 24 ∷ []) ∷ (32 ∷ 33 ∷ 34 ∷ 34 ∷ []) ∷ []
left = refl

down :
    rows (scrolled 0 numbers (move 1 0 (rect 1 1 4 3)))
    ≡ (11 ∷ 12 ∷ 13 ∷ 14 ∷ []) ∷ (21 ∷ 12 ∷ 13 ∷ 14 ∷ []) ∷ (31 ∷ 22 ∷ 23 ∷ 24 ∷ []) ∷ []
down = refl

up :
    rows (scrolled 0 numbers (move 1 1 (rect 1 0 4 2)))
    ≡ (11 ∷ 22 ∷ 23 ∷ 24 ∷ []) ∷ (21 ∷ 32 ∷ 33 ∷ 34 ∷ []) ∷ (31 ∷ 32 ∷ 33 ∷ 34 ∷ []) ∷ []
up = refl

-- a source that reaches past a side
source_past_right : is_move_inside (move 2 0 (rect 0 0 3 1)) 4 3 ≡ false
source_past_right = refl

source_before_left :
    is_move_inside (record { source = record { x = negsuc 0; y = pos 0 }; dest = rect 0 0 1 1 }) 4 3 ≡ false
source_before_left = refl

source_at_the_corner : is_move_inside (move 2 1 (rect 0 0 2 2)) 4 3 ≡ true
source_at_the_corner = refl

-- three columns of two rows
count : points (rect 1 1 4 3) ≡ 6
count = refl
