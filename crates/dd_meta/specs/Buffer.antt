-- A frame's metadata as bytes, and what putting bytes into a caller's buffer makes of it.
use Rattle.std.specs.Prelude.{ℕ, ◌+◌, ◌≤◌, nat_le, if◌then◌else◌, List, ◌++◌, length, drop, Result, Ok, Err, IsOk}
use Rattle.std.specs.List.{flat_map}
use Rattle.dd_geom.specs.declared.rect.Rect.{Rect}
use Rattle.dd_geom.specs.declared.rect.Move.{Move}
use Rattle.dd_geom.specs.Bytes.{rect_bytes, move_bytes}
use Rattle.dd_meta.specs.declared.buffer.TheConstants.{MOVES_BUFFER, RECTS_BUFFER, MAX_METADATA}

-- the bytes of moves and of rectangles, one after another
abbrev pub bytes_of_moves : List Move → List ℕ
bytes_of_moves moves = flat_map move_bytes moves

abbrev pub bytes_of_rects : List Rect → List ℕ
bytes_of_rects rects = flat_map rect_bytes rects

-- bytes put into a buffer: their number, and the buffer with them at its front; or, where it is shorter, the number
-- that is required, and the buffer as it was
abbrev pub put : List ℕ → List ℕ → Result ℕ ℕ × List ℕ
put bytes buffer =
    if nat_le (length bytes) (length buffer)
    then (Ok (length bytes), bytes ++ drop (length bytes) buffer)
    else (Err (length bytes), buffer)

-- the metadata of 16 moves and 64 rectangles is the longest of a frame
abbrev pub MetadataIsShort : Type 0
MetadataIsShort =
    (moves : List Move) (rects : List Rect) → length moves ≤ 16 → length rects ≤ 64
    → length (bytes_of_moves moves) + length (bytes_of_rects rects) ≤ MAX_METADATA

-- a buffer of these many bytes is never too short for a frame's moves, or for its rectangles
abbrev pub MovesFit : Type 0
MovesFit =
    (moves : List Move) (buffer : List ℕ) → length moves ≤ 16 → MOVES_BUFFER ≤ length buffer
    → IsOk (put (bytes_of_moves moves) buffer).0

abbrev pub RectsFit : Type 0
RectsFit =
    (rects : List Rect) (buffer : List ℕ) → length rects ≤ 64 → RECTS_BUFFER ≤ length buffer
    → IsOk (put (bytes_of_rects rects) buffer).0
