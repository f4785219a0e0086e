-- Which bytes are a pointer's shape (the API's DXGI_OUTDUPL_POINTER_SHAPE_INFO), and the first fault where they aren't.
use Rattle.std.specs.Prelude.{◌≡◌, ℕ, ◌+◌, ◌*◌, ◌/◌, ◌%◌, nat_le, Bool, not, ◌&&◌, ◌==◌, if◌then◌else◌, List, length, slice_index_or, position, Option, Some, None, option_map, Result, Ok, Err}
use Rattle.std.specs.List.{range_with_len}
use Rattle.dd_geom.specs.declared.rect.Point.{Point}
use Rattle.dd_pointer.specs.declared.kind.Kind.{Kind}
use Rattle.dd_pointer.specs.declared.kind.Kind.TheVariants.{Monochrome, Color, MaskedColor}
use Rattle.dd_pointer.specs.declared.kind.TheConstants.{MAX_WIDTH, MAX_HEIGHT, MAX_MASK_HEIGHT}
use Rattle.dd_pointer.specs.declared.shape.ShapeFault.{ShapeFault}
use Rattle.dd_pointer.specs.declared.shape.ShapeFault.TheVariants.{UnknownKind, BadSize, BadLength, BadMask, OutOfMemory}
use Rattle.dd_pointer.specs.declared.shape.ShapeInfo.{ShapeInfo}

-- a shape's parts; the bytes of a monochrome shape are two masks, so its height is twice what it covers
pub record PointerShape : Type 0 where
  pub kind : Kind
  pub width : ℕ
  pub height : ℕ
  pub hot : Point
  pub bytes : List ℕ

-- the API's number of a kind (DXGI_OUTDUPL_POINTER_SHAPE_TYPE)
abbrev pub number : Kind → ℕ
number Monochrome = 1
number Color = 2
number MaskedColor = 4

-- the kind of a number, if there is one
abbrev pub kind_of : ℕ → Option Kind
kind_of n =
    if n == 1 then Some Monochrome else (if n == 2 then Some Color else (if n == 4 then Some MaskedColor else None))

-- the bytes of a row
abbrev pub pitch : Kind → ℕ → ℕ
pitch Monochrome width = (width + 7) / 8
pitch Color width = 4 * width
pitch MaskedColor width = 4 * width

-- how many bytes a shape of this kind and size has
abbrev pub required : Kind → ℕ → ℕ → ℕ
required kind width height = pitch kind width * height

-- the heights that a kind may have
abbrev pub is_height : Kind → ℕ → Bool
is_height Monochrome height = nat_le 2 height && nat_le height MAX_MASK_HEIGHT && height % 2 == 0
is_height Color height = nat_le 1 height && nat_le height MAX_HEIGHT
is_height MaskedColor height = nat_le 1 height && nat_le height MAX_HEIGHT

-- the sizes that a kind may have
abbrev pub is_size : Kind → ℕ → ℕ → Bool
is_size kind width height = nat_le 1 width && nat_le width MAX_WIDTH && is_height kind height

-- at this place stands a mask, the fourth byte of a pixel, and it is neither 0 nor 255
abbrev pub is_bad_mask : List ℕ → ℕ → Bool
is_bad_mask bytes k = k % 4 == 3 && not (slice_index_or bytes k 0 == 0) && not (slice_index_or bytes k 0 == 255)

-- the first place of a bad mask, if there is one
abbrev pub bad_mask : List ℕ → Option ℕ
bad_mask bytes = position (is_bad_mask bytes) (range_with_len 0 (length bytes))

-- the fault of a kind's bytes, if there is one: only masked colours have masks
abbrev pub mask_fault : Kind → List ℕ → Option ShapeFault
mask_fault Monochrome bytes = None
mask_fault Color bytes = None
mask_fault MaskedColor bytes = option_map BadMask (bad_mask bytes)

-- the first fault of these parts of a shape, if there is one
unfoldable pub shape_fault : Kind → ℕ → ℕ → List ℕ → Option ShapeFault
shape_fault kind width height bytes =
    if not (is_size kind width height) then Some BadSize
    else (if not (length bytes == required kind width height) then Some (BadLength (required kind width height))
    else mask_fault kind bytes)

-- parts without a fault are a shape
abbrev pub IsShape : PointerShape → Type 0
IsShape s = shape_fault s.kind s.width s.height s.bytes ≡ None

-- the parts, or their fault
abbrev pub unless : Option ShapeFault → PointerShape → Result PointerShape ShapeFault
unless None s = Ok s
unless (Some fault) s = Err fault

-- what a kind, if it is one, and the other parts are read as
abbrev pub read_as : Option Kind → ℕ → ℕ → Point → List ℕ → Result PointerShape ShapeFault
read_as None width height hot bytes = Err UnknownKind
read_as (Some kind) width height hot bytes =
    unless (shape_fault kind width height bytes)
    (record { kind = kind; width = width; height = height; hot = hot; bytes = bytes })

-- what is read of a kind's number and the other parts: the shape, or the first fault that stands
abbrev pub reading : ℕ → ℕ → ℕ → Point → List ℕ → Result PointerShape ShapeFault
reading n width height hot bytes = read_as (kind_of n) width height hot bytes

-- the answer is what is read; for a shape, memory may be wanting
abbrev pub IsReading : Result PointerShape ShapeFault → Result PointerShape ShapeFault → Type 0
IsReading (Err fault) answer = answer ≡ Err fault
IsReading (Ok s) (Ok shape) = shape ≡ s
IsReading (Ok s) (Err fault) = fault ≡ OutOfMemory

-- what is told of a shape
abbrev pub info_of : PointerShape → ShapeInfo
info_of s =
    record {
      kind = number s.kind;
      width = s.width;
      height = s.height;
      pitch = pitch s.kind s.width;
      hot = s.hot;
    }

-- the parts of a shape, read, are the shape
abbrev pub ShapeIsRead : Type 0
ShapeIsRead = (s : PointerShape) → IsShape s → reading (number s.kind) s.width s.height s.hot s.bytes ≡ Ok s
