-- What a shape makes of the screen: a colour of one point, channel by channel, and the picture of that.
use Rattle.std.specs.Prelude.{ℕ, ◌≤◌, ◌+◌, ◌-◌, ◌*◌, ◌/◌, ◌%◌, ◌^◌, bit_xor, Bool, true, false, ◌==◌, if◌then◌else◌, slice_index_or, pos, ◌+ℤ◌, ◌-ℤ◌}
use Rattle.dd_geom.specs.declared.rect.Point.{Point}
use Rattle.dd_geom.specs.declared.rect.Rect.{Rect}
use Rattle.dd_geom.specs.Rect.{covers, place}
use Rattle.dd_geom.specs.Grid.{Grid, grid}
use Rattle.dd_grid.specs.Drawing.{colour_at}
use Rattle.dd_pointer.specs.declared.kind.Kind.{Kind}
use Rattle.dd_pointer.specs.declared.kind.Kind.TheVariants.{Monochrome, Color, MaskedColor}
use Rattle.dd_pointer.specs.Shape.{PointerShape, pitch}

-- a channel of a colour: blue is 0, green 1, red 2
abbrev pub channel : ℕ → ℕ → ℕ
channel n colour = colour / 256 ^ n % 256

-- the colour that has these channels
abbrev pub colour_of : (ℕ → ℕ) → ℕ
colour_of f = f 0 + 256 * f 1 + 65536 * f 2

-- a channel under a bit of the AND mask and one of the XOR mask (DXGI_OUTDUPL_POINTER_SHAPE_TYPE_MONOCHROME)
abbrev pub under_masks : Bool → Bool → ℕ → ℕ
under_masks false false screen = 0
under_masks false true screen = 255
under_masks true false screen = screen
under_masks true true screen = 255 - screen

-- a channel blended with the screen's by alpha, rounded to the nearest (DXGI_OUTDUPL_POINTER_SHAPE_TYPE_COLOR)
abbrev pub blended : ℕ → ℕ → ℕ → ℕ
blended alpha c screen = (alpha * c + (255 - alpha) * screen + 127) / 255

-- a number of 255ths differs from so many whole ones by less than half a one
pub record IsNearest (parts n : ℕ) : Type 0 where
  pub above : parts ≤ 255 * n + 127
  pub below : 255 * n ≤ parts + 127

-- a blended channel is the nearest whole number to the exact one
abbrev pub BlendedIsNearest : Type 0
BlendedIsNearest =
    (alpha c screen : ℕ) → IsNearest (alpha * c + (255 - alpha) * screen) (blended alpha c screen)

-- a channel that replaces the screen's, or is XORed with it (DXGI_OUTDUPL_POINTER_SHAPE_TYPE_MASKED_COLOR)
abbrev pub masked : ℕ → ℕ → ℕ → ℕ
masked mask c screen = if mask == 0 then c else bit_xor c screen

-- a bit of a mask, whose leftmost pixel is the top bit
abbrev pub mask_bit : PointerShape → ℕ → ℕ → Bool
mask_bit s x y = slice_index_or s.bytes (y * pitch s.kind s.width + x / 8) 0 / 2 ^ (7 - x % 8) % 2 == 1

-- one of the four bytes of a pixel: blue, green, red, and alpha or mask
abbrev pub pixel_byte : PointerShape → ℕ → ℕ → ℕ → ℕ
pixel_byte s x y n = slice_index_or s.bytes (y * pitch s.kind s.width + 4 * x + n) 0

-- what a kind makes of a channel of the screen
abbrev pub composited_channel : Kind → PointerShape → ℕ → ℕ → ℕ → ℕ → ℕ
composited_channel Monochrome s x y n screen = under_masks (mask_bit s x y) (mask_bit s x (y + s.height / 2)) screen
composited_channel Color s x y n screen = blended (pixel_byte s x y 3) (pixel_byte s x y n) screen
composited_channel MaskedColor s x y n screen = masked (pixel_byte s x y 3) (pixel_byte s x y n) screen

-- the colour that a shape makes, at a point inside it, of the screen's colour there
unfoldable pub composited : PointerShape → ℕ → ℕ → ℕ → ℕ
composited s x y screen = colour_of (λ n. composited_channel s.kind s x y n (channel n screen))

-- the rows that a shape covers: a monochrome one has two masks
abbrev pub rows_covered : Kind → ℕ → ℕ
rows_covered Monochrome height = height / 2
rows_covered Color height = height
rows_covered MaskedColor height = height

-- where a shape lies, its top left corner at a point
abbrev pub extent : PointerShape → Point → Rect
extent s at =
    record {
      left = at.x;
      top = at.y;
      right = at.x +ℤ pos s.width;
      bottom = at.y +ℤ pos (rows_covered s.kind s.height);
    }

-- a surface with a shape drawn, its top left corner at a point, cut at the surface
abbrev pub composed : Grid ℕ → PointerShape → Point → Grid ℕ
composed g s at =
    grid g.width g.height
    (λ x y. if covers (extent s at) (pos x) (pos y)
    then composited s (place (pos x -ℤ at.x)) (place (pos y -ℤ at.y)) (colour_at g x y)
    else colour_at g x y)
