-- The limits, and the definitions on small shapes, worked out by hand.
use Rattle.std.proofs.Common.{◌≡◌, ℕ, pos, negsuc, List, [], ◌∷◌, Ok, Err, refl}
use Rattle.dd_geom.specs.declared.rect.Point.{Point}
use Rattle.dd_geom.specs.Grid.{Grid, rows}
use Rattle.dd_pointer.specs.declared.kind.Kind.{Kind}
use Rattle.dd_pointer.specs.declared.kind.Kind.TheVariants.{Monochrome, Color, MaskedColor}
use Rattle.dd_pointer.specs.declared.kind.TheConstants.{MAX_WIDTH, MAX_HEIGHT, MAX_MASK_HEIGHT, MAX_BYTES}
use Rattle.dd_pointer.specs.declared.shape.ShapeFault.TheVariants.{UnknownKind, BadSize, BadLength, BadMask}
use Rattle.dd_pointer.specs.Shape.{PointerShape, shape_fault, reading}
use Rattle.dd_pointer.specs.Compositing.{composited, composed, blended, channel}

max_width : MAX_WIDTH ≡ 256
max_width = refl

max_height : MAX_HEIGHT ≡ 256
max_height = refl

max_mask_height : MAX_MASK_HEIGHT ≡ 512
max_mask_height = refl

max_bytes : MAX_BYTES ≡ 262144
max_bytes = refl

abbrev corner : Point
corner = record { x = pos 0; y = pos 0 }

-- two columns under masks of two rows: the AND mask is 11 and 00, the XOR mask 10 and 10
abbrev arrow : PointerShape
arrow =
    record {
      kind = Monochrome;
      width = 2;
      height = 4;
      hot = corner;
      bytes = 0xc0 ∷ 0 ∷ 0x80 ∷ 0x80 ∷ [];
    }

arrow_is_read : reading 1 2 4 corner (0xc0 ∷ 0 ∷ 0x80 ∷ 0x80 ∷ []) ≡ Ok arrow
unfolding shape_fault
arrow_is_read = refl

-- the faults in their order, each with all later ones standing too
unknown_kind : reading 3 0 0 corner [] ≡ Err UnknownKind
unknown_kind = refl

bad_size : reading 4 257 1 corner (1 ∷ 1 ∷ 1 ∷ 1 ∷ []) ≡ Err BadSize
unfolding shape_fault
bad_size = refl

odd_height : reading 1 2 3 corner [] ≡ Err BadSize
unfolding shape_fault
odd_height = refl

bad_length : reading 4 1 2 corner (1 ∷ 1 ∷ 1 ∷ 1 ∷ []) ≡ Err (BadLength 8)
unfolding shape_fault
bad_length = refl

-- nine columns take two bytes a row
two_bytes_a_row : reading 1 9 2 corner (0 ∷ 0 ∷ 0 ∷ []) ≡ Err (BadLength 4)
unfolding shape_fault
two_bytes_a_row = refl

bad_mask : reading 4 1 2 corner (1 ∷ 1 ∷ 1 ∷ 255 ∷ 1 ∷ 1 ∷ 1 ∷ 254 ∷ []) ≡ Err (BadMask 7)
unfolding shape_fault
bad_mask = refl

no_mask : reading 2 1 1 corner (1 ∷ 1 ∷ 1 ∷ 254 ∷ [])
    ≡ Ok (record { kind = Color; width = 1; height = 1; hot = corner; bytes = 1 ∷ 1 ∷ 1 ∷ 254 ∷ [] })
unfolding shape_fault
no_mask = refl

-- three by two points of one colour
abbrev blue : Grid ℕ
blue =
    record {
      width = 3;
      height = 2;
      cells = 0x102030 ∷ 0x102030 ∷ 0x102030 ∷ 0x102030 ∷ 0x102030 ∷ 0x102030 ∷ [];
    }

-- AND 1 and XOR 1 turn the screen's channels over, 1 and 0 keep them, 0 and 1 are white, 0 and 0 black
four_pairs :
    rows (composed blue arrow corner)
    ≡ (0xefdfcf ∷ 0x102030 ∷ 0x102030 ∷ []) ∷ (0xffffff ∷ 0 ∷ 0x102030 ∷ []) ∷ []
unfolding composited
four_pairs = refl

-- cut at the right and the bottom: the top left pixel alone
cut_right_and_below :
    rows (composed blue arrow (record { x = pos 2; y = pos 1 }))
    ≡ (0x102030 ∷ 0x102030 ∷ 0x102030 ∷ []) ∷ (0x102030 ∷ 0x102030 ∷ 0xefdfcf ∷ []) ∷ []
unfolding composited
cut_right_and_below = refl

-- cut at the left: the right column alone
cut_left :
    rows (composed blue arrow (record { x = negsuc 0; y = pos 0 }))
    ≡ (0x102030 ∷ 0x102030 ∷ 0x102030 ∷ []) ∷ (0 ∷ 0x102030 ∷ 0x102030 ∷ []) ∷ []
unfolding composited
cut_left = refl

-- cut at the top: the lower row alone
cut_above :
    rows (composed blue arrow (record { x = pos 1; y = negsuc 0 }))
    ≡ (0x102030 ∷ 0xffffff ∷ 0 ∷ []) ∷ (0x102030 ∷ 0x102030 ∷ 0x102030 ∷ []) ∷ []
unfolding composited
cut_above = refl

-- at the ends of 32 bits nothing is left of it
far_away : composed blue arrow (record { x = pos 2147483647; y = negsuc 2147483647 }) ≡ blue
unfolding composited
far_away = refl

-- the ninth column is the top bit of a row's second byte
abbrev wide : PointerShape
wide =
    record {
      kind = Monochrome;
      width = 9;
      height = 2;
      hot = corner;
      bytes = 0xff ∷ 0x80 ∷ 0x01 ∷ 0x80 ∷ [];
    }

seventh : composited wide 6 0 0x102030 ≡ 0x102030
unfolding composited
seventh = refl

eighth : composited wide 7 0 0x102030 ≡ 0xefdfcf
unfolding composited
eighth = refl

ninth : composited wide 8 0 0x102030 ≡ 0xefdfcf
unfolding composited
ninth = refl

abbrev pixel : Kind → List ℕ → PointerShape
pixel kind bytes = record { kind = kind; width = 1; height = 1; hot = corner; bytes = bytes }

-- red at an alpha of 128 over blue: 128 * 255 / 255 and 127 * 255 / 255
half_red : composited (pixel Color (0 ∷ 0 ∷ 255 ∷ 128 ∷ [])) 0 0 0x0000ff ≡ 0x80007f
unfolding composited
half_red = refl

-- 127 * 1 and 128 * 1 are rounded to the nearest of 255ths
rounded_down : blended 127 1 0 ≡ 0
rounded_down = refl

rounded_up : blended 128 1 0 ≡ 1
rounded_up = refl

no_alpha : blended 0 200 77 ≡ 77
no_alpha = refl

full_alpha : blended 255 200 77 ≡ 200
full_alpha = refl

-- a mask of 255 XORs each channel, one of 0 replaces it
xored : composited (pixel MaskedColor (0x0f ∷ 0x0f ∷ 0x0f ∷ 255 ∷ [])) 0 0 0x102030 ≡ 0x1f2f3f
unfolding composited
xored = refl

replaced : composited (pixel MaskedColor (1 ∷ 2 ∷ 3 ∷ 0 ∷ [])) 0 0 0x102030 ≡ 0x030201
unfolding composited
replaced = refl

-- the channels from the lowest: blue, green, red
channels : (channel 0 0x102030 ∷ channel 1 0x102030 ∷ channel 2 0x102030 ∷ []) ≡ 0x30 ∷ 0x20 ∷ 0x10 ∷ []
channels = refl
