-- The frame that is asked for is shown exactly where so many frames came; and a reader has no more bytes than came.
use Rattle.std.proofs.Common.{◌≡◌, ℕ, zero, suc, ◌+◌, ◌<◌, ◌≤◌, Bool, true, false, ◌==◌, cond, nat_le, List, [], ◌∷◌, length, Option, Some, None, refl, length-drop, arith}
use borrow.Author.Tests.{leb-true}
use Rattle.dd_record.specs.declared.chunk.Chunk.{Chunk}
use Rattle.dd_record.specs.declared.chunk.Chunk.TheVariants.{Opening, Frame, End}
use Rattle.dd_record.specs.declared.chunk.FrameChunk.{FrameChunk}
use Rattle.dd_record.specs.declared.chunk.Parsed.{Parsed}
use Rattle.dd_record.specs.declared.fault.RecordFault.TheVariants.{BadMagic}
use Rattle.dd_record.specs.Reading.{Reading, Good, Bad, Short}
use Rattle.dd_record.specs.Grammar.{chunk_of}
use Rattle.dd_record.specs.Writing.{magic}
use Rattle.dd_record.proofs.Fits.{chunk_sized}
use Rattle.dd_view.specs.declared.stage.Stage.{Stage}
use Rattle.dd_view.specs.declared.stage.Stage.TheVariants.{Begun, Going, Ended, Failed}
use Rattle.dd_view.specs.Playing.{Screen, Shown, Played, framed, shown_of, frame_if, chunk_played}
use Rattle.dd_view.specs.Player.{Reader, new_reader, stopped, agree, behind_magic, begun_next, chunk_next, open_mode, ended_next, next_at, next, steps, read_on, came, reader_of, bytes_come}

-- ---- what was played

-- so many frames came, where one is shown; else fewer
abbrev pub ShownFrom : ℕ → Option Shown → ℕ → Type 0
ShownFrom asked None frames = frames < asked
ShownFrom asked (Some s) frames = asked ≤ frames

one_more : (same : Bool) (asked frames : ℕ) (new : Shown) (old : Option Shown) → (frames + 1 == asked) ≡ same
    → ShownFrom asked old frames → ShownFrom asked (cond same (Some new) old) (frames + 1)
one_more true asked frames new old e h = grind (arith, e)
one_more false asked frames new None e h = grind (arith, e, h)
one_more false asked frames new (Some s) e h = omega (arith, h)

frame_shown : (asked : ℕ) (p : Played) (f : FrameChunk) (s : Option Screen) → ShownFrom asked p.shown p.frames
    → ShownFrom asked (frame_if asked p f s).shown (frame_if asked p f s).frames
frame_shown asked p f None h = h
frame_shown asked p f (Some s) h =
    one_more (p.frames + 1 == asked) asked p.frames (shown_of (framed s f)) p.shown refl h

chunk_shown : (asked : ℕ) (p : Played) (c : Chunk) → ShownFrom asked p.shown p.frames
    → ShownFrom asked (chunk_played asked p c).shown (chunk_played asked p c).frames
chunk_shown asked p (Opening mode) h = h
chunk_shown asked p (Frame f) h = frame_shown asked p f p.screen h
chunk_shown asked p End h = h

-- ---- a reader

-- of the number that is asked for, and of no more bytes than so many
pub record Keeps (asked most : ℕ) (r : Reader) : Type 0 where
  pub asked_is : r.asked ≡ asked
  pub shown : ShownFrom asked r.played.shown r.played.frames
  pub few : bytes_come r ≤ most

module _ (asked most : ℕ) where
  keeps_begun : (r : Reader) → Keeps asked most r → Keeps asked most (begun_next r)
  unfolding begun_next
  keeps_begun r k = by_case (agree r.rest magic) (nat_le (length magic) (length r.rest)) refl where
    by_case : (same long : Bool) → nat_le (length magic) (length r.rest) ≡ long
        → Keeps asked most (cond same (cond long (behind_magic r) r) (stopped BadMagic r))
    by_case true true e =
        let whole : length magic ≤ length r.rest = leb-true _ _ e in
        let left = length-drop (length magic) r.rest in
        record { asked_is = k.asked_is; shown = k.shown; few = omega (arith, whole, k.few, left) }
    by_case true false e = k
    by_case false long e = record { asked_is = k.asked_is; shown = k.shown; few = omega (arith, k.few) }

  keeps_going : (reading : Reading Parsed) (r : Reader) → chunk_of (open_mode r.played) r.rest ≡ reading
      → Keeps asked most r → Keeps asked most (chunk_next r reading)
  keeps_going (Good parsed) r e k =
      let sized = chunk_sized (open_mode r.played) r.rest parsed e in
      record {
        asked_is = k.asked_is;
        shown = rw k.asked_is (chunk_shown asked r.played parsed.chunk k.shown);
        few = omega (arith, sized.within, k.few, length-drop parsed.used r.rest);
      }
  keeps_going (Bad offset) r e k = record { asked_is = k.asked_is; shown = k.shown; few = omega (arith, k.few) }
  keeps_going Short r e k = k

  keeps_ended : (rest : List ℕ) (r : Reader) → Keeps asked most r → Keeps asked most (ended_next r rest)
  keeps_ended [] r k = k
  keeps_ended (b ∷ rest) r k = record { asked_is = k.asked_is; shown = k.shown; few = omega (arith, k.few) }

  keeps_at : (stage : Stage) (r : Reader) → Keeps asked most r → Keeps asked most (next_at stage r)
  keeps_at Begun r k = keeps_begun r k
  keeps_at Going r k = keeps_going (chunk_of (open_mode r.played) r.rest) r refl k
  keeps_at Ended r k = keeps_ended r.rest r k
  keeps_at (Failed fault) r k = record { asked_is = k.asked_is; shown = k.shown; few = omega (arith, k.few) }

  keeps_steps : (n : ℕ) (r : Reader) → Keeps asked most r → Keeps asked most (steps n r)
  keeps_steps zero r k = k
  keeps_steps (suc n) r k = keeps_steps n (next r) (keeps_at r.stage r k)

pub reader_keeps : (asked : ℕ) (bytes : List ℕ) → 1 ≤ asked → Keeps asked (length bytes) (reader_of asked bytes)
unfolding read_on
reader_keeps asked bytes some =
    keeps_steps asked (length bytes) (length bytes) (came (new_reader asked) bytes)
    (record { asked_is = refl; shown = omega (arith, some); few = omega arith })
