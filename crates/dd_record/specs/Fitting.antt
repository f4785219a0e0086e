-- What a chunk that was read keeps: its parts lie inside the surface, and its bytes among those that came.
use Rattle.std.specs.Prelude.{◌≡◌, ℕ, ◌≤◌, ◌<◌, length, All, IsTrue, Option, Some, None}
use Rattle.std.specs.List.{list_all}
use Rattle.dd_geom.specs.Rect.{IsSize, is_move_inside}
use Rattle.dd_grid.specs.declared.cell.TheConstants.{COLOURS}
use Rattle.dd_modes.specs.declared.modes.Mode.{Mode}
use Rattle.dd_record.specs.declared.chunk.Chunk.{Chunk}
use Rattle.dd_record.specs.declared.chunk.Chunk.TheVariants.{Opening, Frame, End}
use Rattle.dd_record.specs.declared.chunk.FrameChunk.{FrameChunk}
use Rattle.dd_record.specs.declared.chunk.Parsed.{Parsed}
use Rattle.dd_record.specs.declared.layout.TheConstants.{END_BYTES, OPENING_BYTES, FRAME_HEAD_BYTES}
use Rattle.dd_record.specs.Dirt.{are_inside, pixel_count}

-- a frame's moves and rectangles lie inside the surface of a mode, and it has a colour for each point of them
pub record FitsSurface (mode : Mode) (f : FrameChunk) : Type 0 where
  pub moves : IsTrue (list_all (λ m. is_move_inside m mode.width mode.height) f.moves)
  pub dirt : IsTrue (are_inside mode f.dirt)
  pub pixels : length f.pixels ≡ pixel_count f.dirt
  pub colours : All (λ c. c < COLOURS) f.pixels

-- a mode that is opened has a size, and a frame fits the surface of the mode before it
abbrev pub FitsAfter : Option Mode → Chunk → Type 0
FitsAfter before (Opening mode) = IsSize mode.width mode.height
FitsAfter None (Frame f) = ⊥
FitsAfter (Some mode) (Frame f) = FitsSurface mode f
FitsAfter before End = Unit {0}

-- the fewest bytes that a chunk may have
abbrev pub least_size : Chunk → ℕ
least_size (Opening mode) = OPENING_BYTES
least_size (Frame f) = FRAME_HEAD_BYTES
least_size End = END_BYTES

-- of a chunk at the front of so many bytes
pub record Fits (before : Option Mode) (size : ℕ) (parsed : Parsed) : Type 0 where
  pub chunk : FitsAfter before parsed.chunk
  pub least : least_size parsed.chunk ≤ parsed.used
  pub within : parsed.used ≤ size
