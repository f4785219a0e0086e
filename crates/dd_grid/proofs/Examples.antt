-- The number of colours, and small pictures, drawn by the definitions.
use Rattle.std.proofs.Common.{◌≡◌, ℕ, true, false, pos, [], ◌∷◌, refl}
use Rattle.dd_geom.specs.declared.rect.Rect.{Rect}
use Rattle.dd_geom.specs.declared.rect.Move.{Move}
use Rattle.dd_geom.specs.Grid.{Grid, rows}
use Rattle.dd_grid.specs.declared.cell.TheConstants.{COLOURS}
use Rattle.dd_grid.specs.Cell.{Cell, plain}
use Rattle.dd_grid.specs.Drawing.{black, filled, blitted, covered, moved_cells, any_hidden, cell_at, seen, blank, with_colour, taken, moved}

-- a colour has 24 bits
colours : COLOURS ≡ 16777216
colours = refl

abbrev rect : ℕ → ℕ → ℕ → ℕ → Rect
rect l t r b = record { left = pos l; top = pos t; right = pos r; bottom = pos b }

-- a red rectangle on black
abbrev red : Grid Cell
red = filled (black 4 3) (rect 1 1 3 2) 0xff0000

one_fill : rows (seen red) ≡ (0 ∷ 0 ∷ 0 ∷ 0 ∷ []) ∷ (0 ∷ 16711680 ∷ 16711680 ∷ 0 ∷ []) ∷ (0 ∷ 0 ∷ 0 ∷ 0 ∷ []) ∷ []
one_fill = refl

-- a later fill covers an earlier one where they overlap
abbrev two : Grid Cell
two = filled red (rect 2 0 4 2) 7

overlap : rows (seen two) ≡ (0 ∷ 0 ∷ 7 ∷ 7 ∷ []) ∷ (0 ∷ 16711680 ∷ 7 ∷ 7 ∷ []) ∷ (0 ∷ 0 ∷ 0 ∷ 0 ∷ []) ∷ []
overlap = refl

-- what is seen of a hidden cell is black
one_hidden : rows (seen (record { width = 2; height = 1; cells = record { colour = 9; hidden = true } ∷ plain 9 ∷ [] })) ≡ (0 ∷ 9 ∷ []) ∷ []
one_hidden = refl

-- taken inside a rectangle alone, onto a surface that has a colour of its own
taken_part :
    rows (taken (with_colour (blank 4 3) 0 2 5) (rect 2 1 4 3) two)
    ≡ (0 ∷ 0 ∷ 0 ∷ 0 ∷ []) ∷ (0 ∷ 0 ∷ 7 ∷ 7 ∷ []) ∷ (5 ∷ 0 ∷ 0 ∷ 0 ∷ []) ∷ []
taken_part = refl

-- an image is drawn upright, row by row from its top left corner
abbrev drawn : Grid Cell
drawn = blitted (black 4 3) (rect 1 0 3 2) (1 ∷ 2 ∷ 3 ∷ 4 ∷ [])

upright : rows (seen drawn) ≡ (0 ∷ 1 ∷ 2 ∷ 0 ∷ []) ∷ (0 ∷ 3 ∷ 4 ∷ 0 ∷ []) ∷ (0 ∷ 0 ∷ 0 ∷ 0 ∷ []) ∷ []
upright = refl

nothing_hidden : any_hidden drawn ≡ false
nothing_hidden = refl

-- a cover hides its colours, which the cells keep
abbrev hid : Grid Cell
hid = covered drawn (rect 2 1 4 2) (8 ∷ 9 ∷ [])

seen_black : rows (seen hid) ≡ (0 ∷ 1 ∷ 2 ∷ 0 ∷ []) ∷ (0 ∷ 3 ∷ 0 ∷ 0 ∷ []) ∷ (0 ∷ 0 ∷ 0 ∷ 0 ∷ []) ∷ []
seen_black = refl

colour_kept : (cell_at hid 3 1).colour ≡ 9
colour_kept = refl

some_hidden : any_hidden hid ≡ true
some_hidden = refl

-- a fill over one of the two hidden cells leaves the other hidden, a fill over both none
one_left : any_hidden (filled hid (rect 3 0 4 3) 5) ≡ true
one_left = refl

none_left : any_hidden (filled hid (rect 2 1 4 2) 5) ≡ false
none_left = refl

-- one column to the right and one row down, over a part of what is copied
abbrev right_and_down : Move
right_and_down = record { source = record { x = pos 0; y = pos 0 }; dest = rect 1 1 4 3 }

abbrev numbered : Grid ℕ
numbered =
    record { width = 4; height = 3; cells = 1 ∷ 2 ∷ 3 ∷ 4 ∷ 5 ∷ 6 ∷ 7 ∷ 8 ∷ 9 ∷ 10 ∷ 11 ∷ 12 ∷ [] }

overlapping_move :
    rows (moved numbered right_and_down)
    ≡ (1 ∷ 2 ∷ 3 ∷ 4 ∷ []) ∷ (5 ∷ 1 ∷ 2 ∷ 3 ∷ []) ∷ (9 ∷ 5 ∷ 6 ∷ 7 ∷ []) ∷ []
overlapping_move = refl

-- a picture's cells move whole: a hidden one stays hidden at its new place
hidden_moves :
    rows (seen (moved_cells hid right_and_down))
    ≡ (0 ∷ 1 ∷ 2 ∷ 0 ∷ []) ∷ (0 ∷ 0 ∷ 1 ∷ 2 ∷ []) ∷ (0 ∷ 0 ∷ 3 ∷ 0 ∷ []) ∷ []
hidden_moves = refl

hidden_at_its_new_place : cell_at (moved_cells hid right_and_down) 3 2 ≡ record { colour = 8; hidden = true }
hidden_at_its_new_place = refl
