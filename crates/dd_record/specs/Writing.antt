-- The bytes of each chunk, from what it says; and that reading them gives the chunk.
use Rattle.std.specs.Prelude.{◌≡◌, ℕ, ◌+◌, ◌*◌, ◌≤◌, ◌<◌, Bool, true, if◌then◌else◌, FitsSigned, List, [], ◌∷◌, ◌++◌, length, IsTrue, Option, Some, None, IfSome}
use Rattle.std.specs.Int.{w32}
use Rattle.std.specs.List.{flat_map, AllByRecursion}
use Rattle.byteorder.specs.Endian.{little_bytes}
use Rattle.dd_geom.specs.declared.rect.Point.{Point}
use Rattle.dd_geom.specs.declared.rect.TheConstants.{MOVE_BYTES, RECT_BYTES}
use Rattle.dd_geom.specs.Bytes.{coordinate_bytes, rect_bytes, move_bytes}
use Rattle.dd_geom.specs.Rect.{IsSize, FitsSides, FitsMove, is_inside, is_move_inside}
use Rattle.dd_bits.specs.CanonicalList.{canonical_list}
use Rattle.dd_grid.specs.declared.cell.TheConstants.{COLOURS}
use Rattle.dd_modes.specs.declared.modes.Mode.{Mode}
use Rattle.dd_modes.specs.Numbers.{rotation_number}
use Rattle.dd_pointer.specs.Shape.{PointerShape, IsShape, number}
use Rattle.dd_calls.specs.declared.answers.FrameInfo.{FrameInfo}
use Rattle.dd_log.specs.declared.events.TheConstants.{MAX_CAPACITY}
use Rattle.dd_acc.specs.declared.interval.TheConstants.{MAX_MOVES}
use Rattle.dd_coal.specs.declared.coalescing.TheConstants.{MAX_RECTS}
use Rattle.dd_record.specs.declared.chunk.Chunk.{Chunk}
use Rattle.dd_record.specs.declared.chunk.Chunk.TheVariants.{Opening, Frame, End}
use Rattle.dd_record.specs.declared.chunk.FrameChunk.{FrameChunk}
use Rattle.dd_record.specs.Reading.{Good}
use Rattle.dd_record.specs.Dirt.{covered_by, pixel_count}
use Rattle.dd_record.specs.Grammar.{chunk_of}

-- ---- bytes

abbrev pub u32_bytes : ℕ → List ℕ
u32_bytes n = little_bytes 4 n

abbrev pub u64_bytes : ℕ → List ℕ
u64_bytes n = little_bytes 8 n

abbrev pub flag_bytes : Bool → List ℕ
flag_bytes b = (if b then 1 else 0) ∷ []

abbrev pub point_bytes : Point → List ℕ
point_bytes p = coordinate_bytes p.x ++ coordinate_bytes p.y

unfoldable pub end_bytes : List ℕ
end_bytes = 0 ∷ []

unfoldable pub opening_bytes : Mode → List ℕ
opening_bytes mode =
    1 ∷ u32_bytes mode.width ++ (u32_bytes mode.height ++ u32_bytes (rotation_number mode.rotation))

-- what is told of a frame, and how many moves and rectangles there are
unfoldable pub head_bytes : FrameInfo → ℕ → ℕ → List ℕ
head_bytes info moves rects =
    2 ∷ u64_bytes info.last_present
    ++ (u64_bytes info.last_mouse
    ++ (u32_bytes info.accumulated
    ++ (flag_bytes info.coalesced
    ++ (flag_bytes info.protected
    ++ (point_bytes info.pointer.position
    ++ (flag_bytes info.pointer.visible
    ++ (u32_bytes info.meta_size
    ++ (u32_bytes info.shape_size
    ++ (moves ∷ rects ∷ [])))))))))

-- blue, green, red and 255
unfoldable pub pixel_bytes : ℕ → List ℕ
pixel_bytes colour = little_bytes 3 colour ++ 255 ∷ []

unfoldable pub shape_head_bytes : PointerShape → List ℕ
shape_head_bytes s = u32_bytes (number s.kind) ++ (u32_bytes s.width ++ (u32_bytes s.height ++ point_bytes s.hot))

abbrev pub shape_bytes : Option PointerShape → List ℕ
shape_bytes None = []
shape_bytes (Some s) = shape_head_bytes s ++ s.bytes

unfoldable pub frame_bytes : FrameChunk → List ℕ
frame_bytes f =
    head_bytes f.info (length f.moves) (length f.dirt)
    ++ (flat_map move_bytes f.moves
    ++ (flat_map rect_bytes f.dirt
    ++ (flat_map pixel_bytes f.pixels
    ++ shape_bytes f.shape)))

-- the bytes that a record begins with: DDR1
unfoldable pub magic : List ℕ
magic = 68 ∷ 68 ∷ 82 ∷ 49 ∷ []

-- the bytes of a chunk
abbrev pub chunk_bytes : Chunk → List ℕ
chunk_bytes (Opening mode) = opening_bytes mode
chunk_bytes (Frame f) = frame_bytes f
chunk_bytes End = end_bytes

-- the bytes of a record of some chunks: the magic, the chunks, and the end
unfoldable pub record_bytes : List Chunk → List ℕ
record_bytes chunks = magic ++ flat_map chunk_bytes chunks ++ end_bytes

-- ---- what a record may say

-- the size of a new shape, 0 where there is none
abbrev pub size_of : Option PointerShape → ℕ
size_of None = 0
size_of (Some s) = length s.bytes

-- what is told of a frame
pub record KeepsInfo (info : FrameInfo) : Type 0 where
  pub last_present : info.last_present ≤ MAX_CAPACITY
  pub last_mouse : info.last_mouse ≤ MAX_CAPACITY
  pub some : 1 ≤ info.last_present + info.last_mouse
  pub accumulated : info.accumulated ≤ info.last_present
  pub presents : 1 ≤ info.last_present → 1 ≤ info.accumulated
  pub coalesced : info.coalesced ≡ true → 1 ≤ info.accumulated
  pub news : 1 ≤ info.meta_size → 1 ≤ info.accumulated
  pub shape : 1 ≤ info.shape_size → 1 ≤ info.last_mouse
  pub x : FitsSigned w32 info.pointer.position.x
  pub y : FitsSigned w32 info.pointer.position.y

-- its pointer's new shape
pub record KeepsShape (s : PointerShape) : Type 0 where
  pub shape : IsShape s
  pub x : FitsSigned w32 s.hot.x
  pub y : FitsSigned w32 s.hot.y

-- a frame of a surface of a mode
pub record KeepsRules (mode : Mode) (f : FrameChunk) : Type 0 where
  pub info : KeepsInfo f.info
  pub meta : f.info.meta_size ≡ MOVE_BYTES * length f.moves + RECT_BYTES * length f.dirt
  pub shape_size : f.info.shape_size ≡ size_of f.shape
  pub few_moves : length f.moves ≤ MAX_MOVES
  pub few_rects : length f.dirt ≤ MAX_RECTS
  pub moves : AllByRecursion (λ m. FitsMove m × IsTrue (is_move_inside m mode.width mode.height)) f.moves
  pub rects : AllByRecursion (λ r. FitsSides r × IsTrue (is_inside r mode.width mode.height)) f.dirt
  pub dirt : f.dirt ≡ canonical_list (covered_by mode.width mode.height f.dirt)
  pub pixels : length f.pixels ≡ pixel_count f.dirt
  pub colours : AllByRecursion (λ c. c < COLOURS) f.pixels
  pub shape : IfSome f.shape KeepsShape

-- ---- laws

-- the bytes of a chunk, whatever stands behind them, are read as the chunk
pub record ReadsWhatIsWritten : Type 0 where
  pub end : (mode : Option Mode) (rest : List ℕ)
      → chunk_of mode (end_bytes ++ rest) ≡ Good (record { chunk = End; used = length end_bytes })
  pub opening : (before : Option Mode) (mode : Mode) (rest : List ℕ) → IsSize mode.width mode.height
      → chunk_of before (opening_bytes mode ++ rest)
      ≡ Good (record { chunk = Opening mode; used = length (opening_bytes mode) })
  pub frame : (mode : Mode) (f : FrameChunk) (rest : List ℕ) → KeepsRules mode f
      → chunk_of (Some mode) (frame_bytes f ++ rest)
      ≡ Good (record { chunk = Frame f; used = length (frame_bytes f) })
