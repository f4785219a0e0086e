-- A picture as text, turned for its viewer: plain PPM (netpbm's P3).
use Rattle.std.specs.Prelude.{◌≡◌, ℕ, List, [], ◌∷◌, ◌++◌, decimal}
use Rattle.std.specs.List.{flat_map, range_with_len}
use Rattle.dd_geom.specs.Grid.{Grid}
use Rattle.dd_grid.specs.Drawing.{colour_at}
use Rattle.dd_modes.specs.declared.modes.Mode.{Mode}
use Rattle.dd_modes.specs.Turning.{turned_width, turned_height, surface_point}
use Rattle.dd_pointer.specs.Compositing.{channel}

-- a surface has the size of a mode
pub record HasSizeOf (mode : Mode) (s : Grid ℕ) : Type 0 where
  pub width : s.width ≡ mode.width
  pub height : s.height ≡ mode.height

-- a number in decimal, and the byte behind it: a space or a line feed
abbrev pub number_then : ℕ → ℕ → List ℕ
number_then n behind = decimal n ++ behind ∷ []

-- red, green and blue of a colour
unfoldable pub pixel_text : ℕ → List ℕ
pixel_text colour =
    number_then (channel 2 colour) 32 ++ (number_then (channel 1 colour) 32 ++ number_then (channel 0 colour) 10)

-- the colour of a surface that stands at a point of its turned picture
abbrev pub turned_colour : Grid ℕ → Mode → ℕ → ℕ → ℕ
turned_colour s mode x y = colour_at s (surface_point mode x y).0 (surface_point mode x y).1

-- the first pixels of a row of the turned picture
unfoldable pub row_text : Grid ℕ → Mode → ℕ → ℕ → List ℕ
row_text s mode y count = flat_map (λ x. pixel_text (turned_colour s mode x y)) (range_with_len 0 count)

-- the first rows of the turned picture
unfoldable pub rows_text : Grid ℕ → Mode → ℕ → List ℕ
rows_text s mode count = flat_map (λ y. row_text s mode y (turned_width mode)) (range_with_len 0 count)

-- `P3`, the size and the greatest value of a channel
unfoldable pub head_text : Mode → List ℕ
head_text mode =
    80 ∷ 51 ∷ 10 ∷ []
    ++ (number_then (turned_width mode) 32
    ++ (number_then (turned_height mode) 10 ++ number_then 255 10))

abbrev pub ppm_text : Grid ℕ → Mode → List ℕ
ppm_text s mode = head_text mode ++ rows_text s mode (turned_height mode)
