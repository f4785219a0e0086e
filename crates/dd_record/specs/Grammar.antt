-- The chunks of a record, field by field: the place of each, counted from the chunk's tag, its size, and its rule,
-- which speaks of this field and those before it. Numbers stand lowest byte first.
use Rattle.std.specs.Prelude.{◌≡◌, ℕ, ◌+◌, ◌*◌, ◌≤◌, nat_le, Bool, false, not, ◌&&◌, ◌||◌, ◌==◌, if◌then◌else◌, List, ◌++◌, length, drop, slice_index_or, Option, Some, None, Result, Ok, Err}
use Rattle.byteorder.specs.Endian.{little_number}
use Rattle.dd_geom.specs.declared.rect.TheConstants.{MAX_SIDE, MAX_PIXELS, MOVE_BYTES, RECT_BYTES}
use Rattle.dd_geom.specs.declared.rect.Rect.{Rect}
use Rattle.dd_geom.specs.declared.rect.Move.{Move}
use Rattle.dd_geom.specs.Bytes.{rect_of, move_of, coordinate_at}
use Rattle.dd_geom.specs.Rect.{is_inside, is_move_inside}
use Rattle.dd_modes.specs.declared.modes.Mode.{Mode}
use Rattle.dd_modes.specs.declared.modes.Rotation.{Rotation}
use Rattle.dd_modes.specs.Numbers.{rotation_numbered}
use Rattle.dd_pointer.specs.declared.kind.Kind.{Kind}
use Rattle.dd_pointer.specs.declared.kind.TheConstants.{MAX_BYTES}
use Rattle.dd_pointer.specs.declared.shape.ShapeFault.{ShapeFault}
use Rattle.dd_pointer.specs.Shape.{PointerShape, kind_of, is_size, required, reading}
use Rattle.dd_calls.specs.declared.answers.FrameInfo.{FrameInfo}
use Rattle.dd_log.specs.declared.pointer.Pointer.{Pointer}
use Rattle.dd_log.specs.declared.events.TheConstants.{MAX_CAPACITY}
use Rattle.dd_meta.specs.declared.buffer.TheConstants.{MAX_METADATA}
use Rattle.dd_acc.specs.declared.interval.TheConstants.{MAX_MOVES}
use Rattle.dd_coal.specs.declared.coalescing.TheConstants.{MAX_RECTS}
use Rattle.dd_record.specs.declared.chunk.Chunk.TheVariants.{Opening, Frame, End}
use Rattle.dd_record.specs.declared.chunk.FrameChunk.{FrameChunk}
use Rattle.dd_record.specs.declared.chunk.Parsed.{Parsed}
use Rattle.dd_record.specs.declared.fault.RecordFault.{RecordFault}
use Rattle.dd_record.specs.declared.fault.RecordFault.TheVariants.{BadMagic, BadField, Truncated, OutOfMemory}
use Rattle.dd_record.specs.declared.head.Head.{Head}
use Rattle.dd_record.specs.declared.shapes.ShapeHead.{ShapeHead}
use Rattle.dd_record.specs.declared.layout.TheConstants.{END_BYTES, OPENING_BYTES, FRAME_HEAD_BYTES, PIXEL_BYTES, SHAPE_HEAD_BYTES}
use Rattle.dd_record.specs.Reading.{Reading, Good, Bad, Short, Stays, ◌>>=◌, come, kept, number, coordinate, fields}
use Rattle.dd_record.specs.Dirt.{is_canonical, pixel_count}

-- ---- rules

-- a number is 0 where an earlier one is
abbrev pub zero_where : ℕ → ℕ → Bool
zero_where earlier n = not (earlier == 0) || n == 0

-- a byte that says no or yes
abbrev pub is_flag : ℕ → Bool
is_flag n = nat_le n 1

-- ---- an opening chunk: tag u8, width u32, height u32, rotation u32

unfoldable pub width_of : List ℕ → Reading ℕ
width_of bytes = number 1 4 bytes >>= λ n. kept 1 (nat_le 1 n && nat_le n MAX_SIDE) n

unfoldable pub height_of : ℕ → List ℕ → Reading ℕ
height_of width bytes =
    number 5 4 bytes >>= λ n. kept 5 (nat_le 1 n && nat_le n MAX_SIDE && nat_le (width * n) MAX_PIXELS) n

-- a rotation by its number
abbrev pub rotation_or_bad : Option Rotation → Reading Rotation
rotation_or_bad (Some r) = Good r
rotation_or_bad None = Bad 9

abbrev pub rotation_of : ℕ → Reading Rotation
rotation_of n = rotation_or_bad (rotation_numbered n)

unfoldable pub mode_of : List ℕ → Reading Mode
mode_of bytes = do
  width ← width_of bytes
  height ← height_of width bytes
  rotation ← number 9 4 bytes >>= rotation_of
  Good (record { width = width; height = height; rotation = rotation })

-- ---- a frame chunk's head, from its tag u8 to the count of rectangles

-- u64
unfoldable pub last_present_of : List ℕ → Reading ℕ
last_present_of bytes = number 1 8 bytes >>= λ n. kept 1 (nat_le n MAX_CAPACITY) n

-- u64
unfoldable pub last_mouse_of : ℕ → List ℕ → Reading ℕ
last_mouse_of last_present bytes =
    number 9 8 bytes >>= λ n. kept 9 (nat_le n MAX_CAPACITY && not (last_present == 0 && n == 0)) n

-- u32
unfoldable pub accumulated_of : ℕ → List ℕ → Reading ℕ
accumulated_of last_present bytes =
    number 17 4 bytes
    >>= λ n. kept 17 (zero_where last_present n && zero_where n last_present && nat_le n last_present) n

-- u8
unfoldable pub coalesced_of : ℕ → List ℕ → Reading Bool
coalesced_of accumulated bytes = do
  n ← number 21 1 bytes
  flag ← kept 21 (is_flag n && zero_where accumulated n) n
  Good (flag == 1)

-- u8
unfoldable pub protected_of : List ℕ → Reading Bool
protected_of bytes = do
  n ← number 22 1 bytes
  flag ← kept 22 (is_flag n) n
  Good (flag == 1)

-- x i32, y i32, visible u8
unfoldable pub pointer_of : List ℕ → Reading Pointer
pointer_of bytes = do
  x ← coordinate 23 bytes
  y ← coordinate 27 bytes
  visible ← number 31 1 bytes >>= λ n. kept 31 (is_flag n) n
  Good (record { position = record { x = x; y = y }; visible = visible == 1 })

-- the bytes of the moves and the rectangles together, u32
unfoldable pub meta_of : ℕ → List ℕ → Reading ℕ
meta_of accumulated bytes =
    number 32 4 bytes >>= λ n. kept 32 (nat_le n MAX_METADATA && zero_where accumulated n) n

-- u32
unfoldable pub shape_size_of : ℕ → List ℕ → Reading ℕ
shape_size_of last_mouse bytes =
    number 36 4 bytes >>= λ n. kept 36 (nat_le n MAX_BYTES && zero_where last_mouse n) n

-- u8
unfoldable pub move_count_of : ℕ → List ℕ → Reading ℕ
move_count_of meta bytes =
    number 40 1 bytes >>= λ n. kept 40 (nat_le n MAX_MOVES && nat_le (MOVE_BYTES * n) meta) n

-- u8
unfoldable pub rect_count_of : ℕ → ℕ → List ℕ → Reading ℕ
rect_count_of meta moves bytes =
    number 41 1 bytes >>= λ n. kept 41 (nat_le n MAX_RECTS && MOVE_BYTES * moves + RECT_BYTES * n == meta) n

unfoldable pub info_of : List ℕ → Reading FrameInfo
info_of bytes = do
  last_present ← last_present_of bytes
  last_mouse ← last_mouse_of last_present bytes
  accumulated ← accumulated_of last_present bytes
  coalesced ← coalesced_of accumulated bytes
  protected ← protected_of bytes
  pointer ← pointer_of bytes
  meta ← meta_of accumulated bytes
  shape_size ← shape_size_of last_mouse bytes
  Good (record {
    last_present = last_present;
    last_mouse = last_mouse;
    accumulated = accumulated;
    coalesced = coalesced;
    protected = protected;
    pointer = pointer;
    meta_size = meta;
    shape_size = shape_size;
  })

unfoldable pub head_of : List ℕ → Reading Head
head_of bytes = do
  info ← info_of bytes
  moves ← move_count_of info.meta_size bytes
  rects ← rect_count_of info.meta_size moves bytes
  Good (record { info = info; moves = moves; rects = rects })

-- ---- behind the head: the moves, the rectangles, their pixels and the shape, each part at a place

-- 24 bytes a move, inside the surface
unfoldable pub move_at : Mode → List ℕ → ℕ → Reading Move
move_at mode bytes at = do
  m ← come at MOVE_BYTES bytes >>= λ field. Good (move_of field)
  kept at (is_move_inside m mode.width mode.height) m

abbrev pub moves_of : Mode → ℕ → List ℕ → ℕ → Reading (List Move)
moves_of mode n bytes at = fields (move_at mode bytes) MOVE_BYTES at n

-- 16 bytes a rectangle, inside the surface
unfoldable pub rect_at : Mode → List ℕ → ℕ → Reading Rect
rect_at mode bytes at = do
  r ← come at RECT_BYTES bytes >>= λ field. Good (rect_of field)
  kept at (is_inside r mode.width mode.height) r

abbrev pub rects_of : Mode → ℕ → List ℕ → ℕ → Reading (List Rect)
rects_of mode n bytes at = fields (rect_at mode bytes) RECT_BYTES at n

-- the rectangles, and behind the last of them the list of them as one field
unfoldable pub dirt_of : Mode → ℕ → List ℕ → ℕ → Reading (List Rect)
dirt_of mode n bytes at = do
  rects ← rects_of mode n bytes at
  kept at (is_canonical mode.width mode.height rects) rects

-- 4 bytes a pixel: blue, green, red and 255
unfoldable pub pixel_at : List ℕ → ℕ → Reading ℕ
pixel_at bytes at = do
  field ← come at PIXEL_BYTES bytes
  kept at (slice_index_or field 3 0 == 255) (little_number 3 field)

abbrev pub pixels_of : ℕ → List ℕ → ℕ → Reading (List ℕ)
pixels_of n bytes at = fields (pixel_at bytes) PIXEL_BYTES at n

-- a kind allows a size, and a shape of it has so many bytes
abbrev pub has_bytes : Option Kind → ℕ → ℕ → ℕ → Bool
has_bytes None width height size = false
has_bytes (Some kind) width height size = is_size kind width height && required kind width height == size

-- the parts of a shape before its bytes: kind u32, width u32, height u32, hot x i32, hot y i32
abbrev pub shape_head : List ℕ → ShapeHead
shape_head field =
    record {
      kind = little_number 4 field;
      width = little_number 4 (drop 4 field);
      height = little_number 4 (drop 8 field);
      hot = record { x = coordinate_at field 12; y = coordinate_at field 16 };
    }

-- these 20 bytes as one field
unfoldable pub shape_head_at : ℕ → List ℕ → ℕ → Reading ShapeHead
shape_head_at size bytes at = do
  head ← come at SHAPE_HEAD_BYTES bytes >>= λ field. Good (shape_head field)
  kept at (has_bytes (kind_of head.kind) head.width head.height size) head

-- a shape that was read, of the field at a place
abbrev pub or_bad : ℕ → Result PointerShape ShapeFault → Reading PointerShape
or_bad at (Ok shape) = Good shape
or_bad at (Err fault) = Bad at

-- and the shape's bytes as one field
unfoldable pub shape_at : ℕ → List ℕ → ℕ → Reading PointerShape
shape_at size bytes at = do
  head ← shape_head_at size bytes at
  field ← come (at + SHAPE_HEAD_BYTES) size bytes
  or_bad (at + SHAPE_HEAD_BYTES) (reading head.kind head.width head.height head.hot field)

-- a shape stands where its size isn't 0
unfoldable pub new_shape_of : ℕ → List ℕ → ℕ → Reading (Option PointerShape)
new_shape_of size bytes at = if size == 0 then Good None else (shape_at size bytes at >>= λ shape. Good (Some shape))

-- ---- whole chunks

-- the places behind the rectangles, the pixels and the shape
abbrev pub behind_rects : FrameInfo → ℕ
behind_rects info = FRAME_HEAD_BYTES + info.meta_size

abbrev pub behind_pixels : FrameInfo → List Rect → ℕ
behind_pixels info dirt = behind_rects info + PIXEL_BYTES * pixel_count dirt

abbrev pub behind_shape : FrameInfo → List Rect → ℕ
behind_shape info dirt =
    behind_pixels info dirt + (if info.shape_size == 0 then 0 else SHAPE_HEAD_BYTES + info.shape_size)

unfoldable pub frame_chunk_of : Mode → List ℕ → Reading FrameChunk
frame_chunk_of mode bytes = do
  head ← head_of bytes
  moves ← moves_of mode head.moves bytes FRAME_HEAD_BYTES
  dirt ← dirt_of mode head.rects bytes (FRAME_HEAD_BYTES + MOVE_BYTES * head.moves)
  pixels ← pixels_of (pixel_count dirt) bytes (behind_rects head.info)
  shape ← new_shape_of head.info.shape_size bytes (behind_pixels head.info dirt)
  Good (record { info = head.info; moves = moves; dirt = dirt; pixels = pixels; shape = shape })

unfoldable pub frame_of : Mode → List ℕ → Reading Parsed
frame_of mode bytes = do
  frame ← frame_chunk_of mode bytes
  Good (record { chunk = Frame frame; used = behind_shape frame.info frame.dirt })

-- a frame chunk, only where an opening chunk came before
abbrev pub frame_after : Option Mode → List ℕ → Reading Parsed
frame_after None bytes = Bad 0
frame_after (Some mode) bytes = frame_of mode bytes

unfoldable pub opening_of : List ℕ → Reading Parsed
opening_of bytes = mode_of bytes >>= λ mode. Good (record { chunk = Opening mode; used = OPENING_BYTES })

abbrev pub end : Parsed
end = record { chunk = End; used = END_BYTES }

-- the chunk of a tag u8
abbrev pub tagged : Option Mode → List ℕ → ℕ → Reading Parsed
tagged mode bytes tag =
    if tag == 0 then Good end
    else (if tag == 1 then opening_of bytes else (if tag == 2 then frame_after mode bytes else Bad 0))

-- the chunk that bytes begin with, after one that opened a mode
unfoldable pub chunk_of : Option Mode → List ℕ → Reading Parsed
chunk_of mode bytes = number 0 1 bytes >>= tagged mode bytes

-- a bad field is one that has come: its place is none behind the bytes that there are
abbrev pub BadHasCome : Type 0
BadHasCome =
    (mode : Option Mode) (bytes : List ℕ) (at : ℕ) → chunk_of mode bytes ≡ Bad at → at ≤ length bytes

-- a whole chunk and a bad field stay, whatever bytes come behind
abbrev pub ReadingStays : Type 0
ReadingStays =
    (mode : Option Mode) (bytes more : List ℕ) → Stays (chunk_of mode bytes) (chunk_of mode (bytes ++ more))

-- ---- what is answered of a chunk whose tag stands at a place of the record

abbrev pub told : ℕ → Reading Parsed → Result (Option Parsed) RecordFault
told at (Good parsed) = Ok (Some parsed)
told at (Bad offset) = Err (BadField (at + offset))
told at Short = Ok None

-- an answer is what is to be told, or want of memory
abbrev pub Tells : Result (Option Parsed) RecordFault → Result (Option Parsed) RecordFault → Type 0
Tells (Ok parsed) right = right ≡ Ok parsed
Tells (Err OutOfMemory) right = Unit {0}
Tells (Err BadMagic) right = right ≡ Err BadMagic
Tells (Err (BadField at)) right = right ≡ Err (BadField at)
Tells (Err (Truncated at)) right = right ≡ Err (Truncated at)
