-- Reading a record in pieces: what a reader has of the bytes that came. It is the same however they were cut.
use Rattle.std.specs.Prelude.{◌≡◌, ℕ, zero, suc, ◌+◌, nat_le, Bool, true, ◌&&◌, ◌==◌, if◌then◌else◌, List, [], ◌∷◌, ◌++◌, length, drop, Option, option_map, Result, Ok, Err}
use Rattle.dd_modes.specs.declared.modes.Mode.{Mode}
use Rattle.dd_record.specs.declared.chunk.Chunk.{Chunk}
use Rattle.dd_record.specs.declared.chunk.Chunk.TheVariants.{Opening, Frame, End}
use Rattle.dd_record.specs.declared.chunk.Parsed.{Parsed}
use Rattle.dd_record.specs.declared.fault.RecordFault.{RecordFault}
use Rattle.dd_record.specs.declared.fault.RecordFault.TheVariants.{BadMagic, BadField, Truncated, OutOfMemory}
use Rattle.dd_record.specs.Reading.{Reading, Good, Bad, Short}
use Rattle.dd_record.specs.Grammar.{chunk_of}
use Rattle.dd_record.specs.Writing.{magic}
use Rattle.dd_view.specs.declared.stage.Stage.{Stage}
use Rattle.dd_view.specs.declared.stage.Stage.TheVariants.{Begun, Going, Ended, Failed}
use Rattle.dd_view.specs.Playing.{Played, nothing_played, chunk_played}

-- the number of the frame that is asked for, from 1; the stage; the place of the first byte that belongs to no whole
-- part, the magic or a chunk; the bytes from there on; and what the chunks before them have played
pub record Reader : Type 0 where
  pub asked : ℕ
  pub stage : Stage
  pub at : ℕ
  pub rest : List ℕ
  pub played : Played

-- of no bytes
abbrev pub new_reader : ℕ → Reader
new_reader asked = record { asked = asked; stage = Begun; at = 0; rest = []; played = nothing_played }

-- a fault was found, and the bytes from there on are forgotten
abbrev pub stopped : RecordFault → Reader → Reader
stopped fault r = record r { stage = Failed fault; rest = [] }

-- two lists of bytes are the same as far as both go
abbrev pub agree : List ℕ → List ℕ → Bool
agree [] bytes = true
agree (b ∷ bytes) [] = true
agree (b ∷ bytes) (c ∷ others) = b == c && agree bytes others

-- after the magic, once it has come whole
abbrev pub behind_magic : Reader → Reader
behind_magic r =
    record r { stage = Going; at = r.at + length magic; rest = drop (length magic) r.rest }

unfoldable pub begun_next : Reader → Reader
begun_next r =
    if agree r.rest magic then (if nat_le (length magic) (length r.rest) then behind_magic r else r)
    else stopped BadMagic r

-- after a chunk
abbrev pub stage_behind : Chunk → Stage
stage_behind (Opening mode) = Going
stage_behind (Frame f) = Going
stage_behind End = Ended

abbrev pub behind_chunk : Reader → Parsed → Reader
behind_chunk r parsed =
    record {
      asked = r.asked;
      stage = stage_behind parsed.chunk;
      at = r.at + parsed.used;
      rest = drop parsed.used r.rest;
      played = chunk_played r.asked r.played parsed.chunk;
    }

abbrev pub chunk_next : Reader → Reading Parsed → Reader
chunk_next r (Good parsed) = behind_chunk r parsed
chunk_next r (Bad offset) = stopped (BadField (r.at + offset)) r
chunk_next r Short = r

-- the mode of the last opening chunk
abbrev pub open_mode : Played → Option Mode
open_mode p = option_map (λ s. s.mode) p.screen

-- no byte stands behind the End chunk
abbrev pub ended_next : Reader → List ℕ → Reader
ended_next r [] = r
ended_next r (b ∷ bytes) = stopped (BadField r.at) r

-- after one whole part more, or the fault that is found; as before, where neither has come
abbrev pub next_at : Stage → Reader → Reader
next_at Begun r = begun_next r
next_at Going r = chunk_next r (chunk_of (open_mode r.played) r.rest)
next_at Ended r = ended_next r r.rest
next_at (Failed fault) r = stopped fault r

abbrev pub next : Reader → Reader
next r = next_at r.stage r

-- after so many parts more, and after all that have come: each has one byte at least
abbrev pub steps : ℕ → Reader → Reader
steps zero r = r
steps (suc n) r = steps n (next r)

unfoldable pub read_on : Reader → Reader
read_on r = steps (length r.rest) r

-- after a piece more
abbrev pub came : Reader → List ℕ → Reader
came r piece = record r { rest = r.rest ++ piece }

abbrev pub fed : Reader → List ℕ → Reader
fed r piece = read_on (came r piece)

-- the reader of some bytes
abbrev pub reader_of : ℕ → List ℕ → Reader
reader_of asked bytes = fed (new_reader asked) bytes

-- cutting makes no difference
abbrev pub FeedingIsReading : Type 0
FeedingIsReading =
    (asked : ℕ) (bytes piece : List ℕ) → fed (reader_of asked bytes) piece ≡ reader_of asked (bytes ++ piece)

-- ---- what is answered

-- how many bytes came, up to the fault where there is one
abbrev pub bytes_come : Reader → ℕ
bytes_come r = r.at + length r.rest

-- the number of whole frames, or the fault
abbrev pub counted : Stage → ℕ → Result ℕ RecordFault
counted Begun frames = Ok frames
counted Going frames = Ok frames
counted Ended frames = Ok frames
counted (Failed fault) frames = Err fault

abbrev pub feed_answer : Reader → Result ℕ RecordFault
feed_answer r = counted r.stage r.played.frames

-- of bytes that end here
abbrev pub finished : Stage → ℕ → Result (Unit {0}) RecordFault
finished Begun size = Err (Truncated size)
finished Going size = Err (Truncated size)
finished Ended size = Ok tt
finished (Failed fault) size = Err fault

abbrev pub finish_answer : Reader → Result (Unit {0}) RecordFault
finish_answer r = finished r.stage (bytes_come r)

-- the first fault is kept
abbrev pub failed_by : RecordFault → Stage → Stage
failed_by fault Begun = Failed fault
failed_by fault Going = Failed fault
failed_by fault Ended = Failed fault
failed_by fault (Failed earlier) = Failed earlier

-- memory was wanting, and that is the first fault
pub record IsInWant (old new : Reader) : Type 0 where
  pub first : failed_by OutOfMemory old.stage ≡ Failed OutOfMemory
  pub is_kept : new.stage ≡ Failed OutOfMemory

-- The piece is read, and the answer told. Or memory is wanting.
abbrev pub Feeds : Result ℕ RecordFault → Reader → Reader → List ℕ → Type 0
Feeds (Err OutOfMemory) old new piece = IsInWant old new
Feeds answer old new piece = (new ≡ fed old piece) × (answer ≡ feed_answer new)
