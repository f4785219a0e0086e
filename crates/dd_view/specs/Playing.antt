-- Playing a record: what its chunks make of a screen, and the picture that is shown after a frame.
use Rattle.std.specs.Prelude.{ℕ, ◌+◌, if◌then◌else◌, ◌==◌, List, [], ◌∷◌, take, drop, fold, Option, Some, None}
use Rattle.std.specs.Option.{option_or}
use Rattle.dd_geom.specs.declared.rect.Rect.{Rect}
use Rattle.dd_geom.specs.Rect.{points}
use Rattle.dd_geom.specs.Grid.{Grid}
use Rattle.dd_grid.specs.Drawing.{blank, imaged}
use Rattle.dd_modes.specs.declared.modes.Mode.{Mode}
use Rattle.dd_pointer.specs.Shape.{PointerShape}
use Rattle.dd_pointer.specs.Compositing.{composed}
use Rattle.dd_acc.specs.Rebuild.{all_moved}
use Rattle.dd_log.specs.declared.pointer.Pointer.{Pointer}
use Rattle.dd_log.specs.Desk.{unset}
use Rattle.dd_record.specs.declared.chunk.Chunk.{Chunk}
use Rattle.dd_record.specs.declared.chunk.Chunk.TheVariants.{Opening, Frame, End}
use Rattle.dd_record.specs.declared.chunk.FrameChunk.{FrameChunk}

-- the surface of the last opening chunk, without its pointer; the pointer, and its shape, if it has one
pub record Screen : Type 0 where
  pub mode : Mode
  pub surface : Grid ℕ
  pub pointer : Pointer
  pub shape : Option PointerShape

-- a black surface, and a pointer that isn't visible and has no shape
abbrev pub opened : Mode → Screen
opened mode = record { mode = mode; surface = blank mode.width mode.height; pointer = unset; shape = None }

-- pixels put into their rectangles, one rectangle after another
abbrev pub pasted : Grid ℕ → List Rect → List ℕ → Grid ℕ
pasted s [] pixels = s
pasted s (r ∷ rects) pixels = pasted (imaged s r (take (points r) pixels)) rects (drop (points r) pixels)

-- the moves in order, then the pixels; the pointer as the frame tells it, and its shape where the frame has a new one
abbrev pub framed : Screen → FrameChunk → Screen
framed s f = record {
  mode = s.mode;
  surface = pasted (all_moved s.surface f.moves) f.dirt f.pixels;
  pointer = f.info.pointer;
  shape = option_or f.shape s.shape;
}

-- a surface with the pointer's shape, where it is visible and has one
abbrev pub with_shape : Grid ℕ → Pointer → Option PointerShape → Grid ℕ
with_shape s pointer None = s
with_shape s pointer (Some shape) = if pointer.visible then composed s shape pointer.position else s

-- the picture that is shown of a screen, and its mode
pub record Shown : Type 0 where
  pub surface : Grid ℕ
  pub mode : Mode

abbrev pub shown_of : Screen → Shown
shown_of s = record { surface = with_shape s.surface s.pointer s.shape; mode = s.mode }

-- what some chunks of a record have played: the screen, where one was opened; how many frames there were; and what was
-- shown after the frame that is asked for
pub record Played : Type 0 where
  pub screen : Option Screen
  pub frames : ℕ
  pub shown : Option Shown

abbrev pub nothing_played : Played
nothing_played = record { screen = None; frames = 0; shown = None }

-- after a frame, on a screen
abbrev pub frame_played : ℕ → Played → FrameChunk → Screen → Played
frame_played asked p f s = record {
  screen = Some (framed s f);
  frames = p.frames + 1;
  shown = if p.frames + 1 == asked then Some (shown_of (framed s f)) else p.shown;
}

-- a frame is played where a screen was opened
abbrev pub frame_if : ℕ → Played → FrameChunk → Option Screen → Played
frame_if asked p f None = p
frame_if asked p f (Some s) = frame_played asked p f s

-- after one chunk more
abbrev pub chunk_played : ℕ → Played → Chunk → Played
chunk_played asked p (Opening mode) = record p { screen = Some (opened mode) }
chunk_played asked p (Frame f) = frame_if asked p f p.screen
chunk_played asked p End = p

-- after some chunks, where the frame of this number, from 1, is asked for
unfoldable pub played : ℕ → List Chunk → Played
played asked chunks = fold (chunk_played asked) nothing_played chunks
