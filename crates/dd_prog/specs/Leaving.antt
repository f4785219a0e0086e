-- What a step leaves in a client's record, told by its answer and the duplicator then. Private calls alone cite these
-- words.
use Rattle.std.specs.Prelude.{ℕ, List, [], Option, Some, None}
use Rattle.dd_modes.specs.declared.modes.Mode.{Mode}
use Rattle.dd_calls.specs.declared.answers.Answer.{Answer}
use Rattle.dd_calls.specs.declared.answers.Answer.TheVariants.{Opened, Frame}
use Rattle.dd_dup.specs.Duplicator.{Duplicator}
use Rattle.dd_record.specs.declared.chunk.Chunk.{Chunk}
use Rattle.dd_record.specs.Frames.{held_bytes}
use Rattle.dd_record.specs.Writing.{opening_bytes, chunk_bytes}

-- the bytes of the frame that is held, where there is a duplicator
abbrev pub shown_bytes : Option Duplicator → List ℕ
shown_bytes None = []
shown_bytes (Some d) = held_bytes d

-- an opening leaves the desk's mode, a frame what is held then, and any other answer nothing
abbrev pub left_by : Answer → Mode → Option Duplicator → List ℕ
left_by (Opened entry slot) mode dup = opening_bytes mode
left_by (Frame info moves dirt) mode dup = shown_bytes dup
left_by _ mode dup = []

-- the bytes of the chunk that is left, if there is one
abbrev pub bytes_left : Option Chunk → List ℕ
bytes_left None = []
bytes_left (Some chunk) = chunk_bytes chunk
