-- The record of a client of a script, by the script's trace: what each moment leaves in it.
use Rattle.std.specs.Prelude.{ℕ, if◌then◌else◌, List, drop, filter_map, Option, Some, None}
use Rattle.dd_calls.specs.declared.answers.Answer.{Answer}
use Rattle.dd_calls.specs.declared.answers.Answer.TheVariants as answers
use Rattle.dd_log.specs.History.{History, desk_mode, last_shape}
use Rattle.dd_log.specs.Picture.{view}
use Rattle.dd_dup.specs.Reply.{Memory}
use Rattle.dd_record.specs.declared.chunk.Chunk.{Chunk}
use Rattle.dd_record.specs.declared.chunk.Chunk.TheVariants as chunks
use Rattle.dd_record.specs.Frames.{pixels_in}
use Rattle.dd_record.specs.Writing.{record_bytes}
use Rattle.dd_calls.specs.declared.steps.Script.{Script}
use Rattle.dd_trace.specs.Independence.{is_of}
use Rattle.dd_trace.specs.Trace.{Moment, trace}

-- The chunk that an answer leaves in the record of the client that has it: an opening one of the desk's mode; a frame
-- one with the pixels of what is seen of the list then in its dirty rectangles, and with the last shape that came
-- behind the duplicator's pointer mark.
abbrev pub chunk_told : Answer → Option Memory → History → Option Chunk
chunk_told (answers.Opened entry slot) memory h = Some (chunks.Opening (desk_mode h))
chunk_told (answers.Frame info moves dirt) (Some d) h = Some (chunks.Frame (record {
  info = info;
  moves = moves;
  dirt = dirt;
  pixels = pixels_in (view h) dirt;
  shape = last_shape (drop d.pointer_mark h.entries);
}))
chunk_told _ memory h = None

-- the chunk that a moment leaves in the record of client c: a drawing none, nor does a call of another client
abbrev pub chunk_at : ℕ → Moment → Option Chunk
chunk_at c m = if is_of c m.step then chunk_told m.answer m.memory m.list else None

-- the chunks that moments leave, in order
abbrev pub recorded : ℕ → List Moment → List Chunk
recorded c ms = filter_map (chunk_at c) ms

-- the record of client c by a trace: the magic, the chunks, and the end
abbrev pub record_told : ℕ → List Moment → List ℕ
record_told c ms = record_bytes (recorded c ms)

-- and of a script
abbrev pub record_of : Script → ℕ → List ℕ
record_of script c = record_told c (trace script)
