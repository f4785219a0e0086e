-- A cell of a picture, after the two kinds of pixels that the API speaks of: plain and protected.
use Rattle.std.specs.Prelude.{ℕ, Bool, false, true, if◌then◌else◌}

-- a colour, red, green and blue from the top byte, and whether it is hidden
pub record Cell : Type 0 where
  pub colour : ℕ
  pub hidden : Bool

abbrev pub cell_of : Bool → ℕ → Cell
cell_of hidden c = record { colour = c; hidden = hidden }

-- a cell that shows its colour
abbrev pub plain : ℕ → Cell
plain c = record { colour = c; hidden = false }

-- a cell that hides its colour
abbrev pub covered_cell : ℕ → Cell
covered_cell c = record { colour = c; hidden = true }

-- what is seen of a cell: black where it is hidden
abbrev pub seen_cell : Cell → ℕ
seen_cell c = if c.hidden then 0 else c.colour
