-- A reader's steps: bytes that come behind others change nothing of the parts that were whole, and nothing of a fault.
use Rattle.std.proofs.Common.{◌≡◌, ℕ, zero, suc, ◌+◌, ◌-◌, ◌<◌, ◌≤◌, Bool, true, false, cond, ◌&&◌, ◌==◌, nat_le, List, [], ◌∷◌, ◌++◌, length, Option, Err, refl, sym, ap, ◌∙◌, subst, length-append, arith}
use Rattle.std.proofs.lemmas.Bool.{le-leb}
use Rattle.std.proofs.lemmas.List.{drop-append-le, length-drop}
use borrow.Author.Tests.{leb-true}
use Rattle.dd_modes.specs.declared.modes.Mode.{Mode}
use Rattle.dd_record.specs.declared.chunk.Chunk.{Chunk}
use Rattle.dd_record.specs.declared.chunk.Chunk.TheVariants.{Opening, Frame, End}
use Rattle.dd_record.specs.declared.chunk.Parsed.{Parsed}
use Rattle.dd_record.specs.declared.fault.RecordFault.{RecordFault}
use Rattle.dd_record.specs.declared.fault.RecordFault.TheVariants.{BadMagic, BadField, Truncated, OutOfMemory}
use Rattle.dd_record.specs.Reading.{Reading, Good, Bad, Short, Stays, come}
use Rattle.dd_record.specs.Grammar.{chunk_of}
use Rattle.dd_record.specs.Fitting.{least_size}
use Rattle.dd_record.specs.Writing.{magic}
use Rattle.dd_record.proofs.Staying.{reading_stays}
use Rattle.dd_record.proofs.Fits.{chunk_sized}
use Rattle.dd_view.specs.declared.stage.Stage.{Stage}
use Rattle.dd_view.specs.declared.stage.Stage.TheVariants.{Begun, Going, Ended, Failed}
use Rattle.dd_view.specs.Playing.{Played}
use Rattle.dd_view.specs.Player.{Reader, new_reader, stopped, agree, behind_magic, begun_next, behind_chunk, chunk_next, open_mode, next_at, next, steps, read_on, came, fed, failed_by, feed_answer, Feeds, FeedingIsReading}

-- ---- the magic

and_false : (same : Bool) (b c : Bool) → (b ≡ false → c ≡ false) → (same && b) ≡ false → (same && c) ≡ false
and_false true b c then e = then e
and_false false b c then e = refl

and_true : (same : Bool) (b c : Bool) → (b ≡ true → c ≡ true) → (same && b) ≡ true → (same && c) ≡ true
and_true true b c then e = then e
and_true false b c then e = cc

differ_later : (bytes more others : List ℕ) → agree bytes others ≡ false → agree (bytes ++ more) others ≡ false
differ_later [] more others e = cc
differ_later (b ∷ bytes) more [] e = cc
differ_later (b ∷ bytes) more (c ∷ others) e =
    and_false (b == c) (agree bytes others) (agree (bytes ++ more) others) (differ_later bytes more others) e

agree_later : (bytes more others : List ℕ) → length others ≤ length bytes → agree bytes others ≡ true
    → agree (bytes ++ more) others ≡ true
agree_later [] [] [] long e = refl
agree_later [] (m ∷ more) [] long e = refl
agree_later [] more (c ∷ others) long e = absurd (omega (arith, long))
agree_later (b ∷ bytes) more [] long e = refl
agree_later (b ∷ bytes) more (c ∷ others) long e =
    and_true (b == c) (agree bytes others) (agree (bytes ++ more) others)
    (agree_later bytes more others (omega (arith, long))) e

-- bytes that differ from the magic are some
differ_some : (bytes others : List ℕ) → agree bytes others ≡ false → 0 < length bytes
differ_some [] others e = cc
differ_some (b ∷ bytes) others e = omega arith

-- ---- one step

-- A step changes nothing; or it takes some bytes. Then the same is taken where more bytes come, or a fault is found,
-- behind which all bytes are forgotten.
pub data Onward (r : Reader) (piece : List ℕ) : Type 0 where
  stands : next r ≡ r → Onward r piece
  goes : (later : Reader) → next r ≡ later → length later.rest < length r.rest
      → came later piece ≡ next (came r piece) → Onward r piece
  fails : (later : Reader) → next r ≡ later → length later.rest < length r.rest
      → next (came later piece) ≡ next (came r piece) → Onward r piece

least_some : (c : Chunk) → 1 ≤ least_size c
least_some (Opening mode) = omega arith
least_some (Frame f) = omega arith
least_some End = omega arith

-- nothing is found bad where no bytes came
bad_some : (mode : Option Mode) (bytes : List ℕ) (offset : ℕ) → chunk_of mode bytes ≡ Bad offset → 0 < length bytes
unfolding chunk_of come
bad_some mode [] offset e = cc
bad_some mode (b ∷ bytes) offset e = omega arith

module _ (asked at : ℕ) (played : Played) where
  abbrev the : Stage → List ℕ → Reader
  the stage rest = record { asked = asked; stage = stage; at = at; rest = rest; played = played }

  module _ (rest piece : List ℕ) where
    -- what a begun reader is after a step, where bytes agree with the magic and are enough
    begun_is : (bytes : List ℕ) (same long : Bool) → agree bytes magic ≡ same
        → nat_le (length magic) (length bytes) ≡ long → begun_next (the Begun bytes)
        ≡ cond same (cond long (behind_magic (the Begun bytes)) (the Begun bytes)) (stopped BadMagic (the Begun bytes))
    unfolding begun_next
    begun_is bytes same long e l =
        ap (λ b. cond b
        (cond (nat_le (length magic) (length bytes)) (behind_magic (the Begun bytes)) (the Begun bytes))
        (stopped BadMagic (the Begun bytes))) e
        ∙ ap (λ b. cond same (cond b (behind_magic (the Begun bytes)) (the Begun bytes))
        (stopped BadMagic (the Begun bytes))) l

    begun_onward : Onward (the Begun rest) piece
    unfolding magic
    begun_onward = by_case (agree rest magic) refl (nat_le 4 (length rest)) refl where
      by_case : (same : Bool) → agree rest magic ≡ same → (long : Bool) → nat_le 4 (length rest) ≡ long
          → Onward (the Begun rest) piece
      by_case true e true l =
          let enough : 4 ≤ length rest = leb-true _ _ l in
          let longer : 4 ≤ length (rest ++ piece) = omega (arith, enough, length-append rest piece) in
          let later : Reader = behind_magic (the Begun rest) in
          goes later (begun_is rest true true e l)
          (omega (arith, enough, length-drop 4 rest))
          (ap (λ (l : List ℕ). record { asked = asked; stage = Going; at = at + 4; rest = l; played = played })
          (sym (drop-append-le 4 rest piece enough))
          ∙ sym (begun_is (rest ++ piece) true true (agree_later rest piece magic enough e) (le-leb _ _ longer)))
      by_case true e false l = stands (begun_is rest true false e l)
      by_case false e long l =
          fails (stopped BadMagic (the Begun rest)) (begun_is rest false long e l) (differ_some rest magic e)
          (sym (begun_is (rest ++ piece) false _ (differ_later rest piece magic e) refl))

    abbrev mode : Option Mode
    mode = open_mode played

    going_onward : (r : Reading Parsed) → chunk_of mode rest ≡ r → Stays r (chunk_of mode (rest ++ piece))
        → Onward (the Going rest) piece
    going_onward (Good parsed) is later =
        let sized = chunk_sized mode rest parsed is in
        goes (behind_chunk (the Going rest) parsed) (ap (chunk_next (the Going rest)) is)
        (omega (arith, sized.least, sized.within, least_some parsed.chunk, length-drop parsed.used rest))
        (ap (λ (l : List ℕ). record (behind_chunk (the Going rest) parsed) { rest = l })
        (sym (drop-append-le parsed.used rest piece sized.within))
        ∙ sym (ap (chunk_next (the Going (rest ++ piece))) later))
    going_onward (Bad offset) is later =
        fails (stopped (BadField (at + offset)) (the Going rest)) (ap (chunk_next (the Going rest)) is)
        (bad_some mode rest offset is) (sym (ap (chunk_next (the Going (rest ++ piece))) later))
    going_onward Short is later = stands (ap (chunk_next (the Going rest)) is)

  onward_at : (stage : Stage) (rest piece : List ℕ) → Onward (the stage rest) piece
  onward_at Begun rest piece = begun_onward rest piece
  onward_at Going rest piece =
      going_onward rest piece (chunk_of (open_mode played) rest) refl (reading_stays (open_mode played) rest piece)
  onward_at Ended [] piece = stands refl
  onward_at Ended (b ∷ rest) piece = fails (stopped (BadField at) (the Ended (b ∷ rest))) refl (omega arith) refl
  onward_at (Failed fault) [] piece = stands refl
  onward_at (Failed fault) (b ∷ rest) piece = fails (the (Failed fault) []) refl (omega arith) refl

pub onward : (r : Reader) (piece : List ℕ) → Onward r piece
onward r piece = onward_at r.asked r.at r.played r.stage r.rest piece

-- ---- all steps

shorter : (r : Reader) → length (next r).rest ≤ length r.rest
shorter r = elim (onward r []) [
  | stands is ↦ subst (λ (s : Reader). length s.rest ≤ length r.rest) (sym is) (omega arith)
  | goes later is less same ↦ subst (λ (s : Reader). length s.rest ≤ length r.rest) (sym is) (omega (arith, less))
  | fails later is less same ↦ subst (λ (s : Reader). length s.rest ≤ length r.rest) (sym is) (omega (arith, less))
]

still : (n : ℕ) (r : Reader) → next r ≡ r → steps n r ≡ r
still zero r e = refl
still (suc n) r e = ap (steps n) e ∙ still n r e

-- without bytes a step changes nothing
pub no_bytes : (r : Reader) → length r.rest ≤ 0 → next r ≡ r
no_bytes r none = elim (onward r []) [
  | stands is ↦ is
  | goes later is less same ↦ absurd (omega (arith, none, less))
  | fails later is less same ↦ absurd (omega (arith, none, less))
]

-- as many steps as there are bytes are enough
enough : (n k : ℕ) (r : Reader) → length r.rest ≤ n → length r.rest ≤ k → steps n r ≡ steps k r
enough zero k r few less = sym (still k r (no_bytes r few))
enough (suc n) zero r few less = still (suc n) r (no_bytes r less)
enough (suc n) (suc k) r few less = elim (onward r []) [
  | stands is ↦ still (suc n) r is ∙ sym (still (suc k) r is)
  | goes later is shorter same ↦
      let size : length (next r).rest < length r.rest =
      subst (λ (s : Reader). length s.rest < length r.rest) (sym is) shorter in
      enough n k (next r) (omega (arith, size, few)) (omega (arith, size, less))
  | fails later is shorter same ↦
      let size : length (next r).rest < length r.rest =
      subst (λ (s : Reader). length s.rest < length r.rest) (sym is) shorter in
      enough n k (next r) (omega (arith, size, few)) (omega (arith, size, less))
]

pub read_next : (r : Reader) → read_on (next r) ≡ read_on r
unfolding read_on
read_next r =
    let n : ℕ = length r.rest in
    let size : length (next r).rest ≤ n = shorter r in
    let fits : length (next r).rest ≤ length (next r).rest = omega arith in
    let all : n ≤ suc n = omega arith in
    let same : n ≤ n = omega arith in
    enough (length (next r).rest) n (next r) fits size ∙ enough (suc n) n r all same

-- a reader that is read as far as its bytes go
pub read_still : (r : Reader) → next r ≡ r → read_on r ≡ r
unfolding read_on
read_still r e = still (length r.rest) r e

came_next : (r : Reader) (piece : List ℕ) → read_on (came (next r) piece) ≡ read_on (came r piece)
came_next r piece = elim (onward r piece) [
  | stands is ↦ ap (λ (s : Reader). read_on (came s piece)) is
  | goes later is less same ↦
      ap (λ (s : Reader). read_on (came s piece)) is ∙ ap read_on same ∙ read_next (came r piece)
  | fails later is less same ↦
      ap (λ (s : Reader). read_on (came s piece)) is
      ∙ sym (read_next (came later piece)) ∙ ap read_on same ∙ read_next (came r piece)
]

came_steps : (n : ℕ) (r : Reader) (piece : List ℕ) → read_on (came (steps n r) piece) ≡ read_on (came r piece)
came_steps zero r piece = refl
came_steps (suc n) r piece = came_steps n (next r) piece ∙ came_next r piece

came_read : (r : Reader) (piece : List ℕ) → read_on (came (read_on r) piece) ≡ read_on (came r piece)
unfolding read_on
came_read r piece = came_steps (length r.rest) r piece

pub feeding_is_reading : FeedingIsReading
feeding_is_reading asked bytes piece = came_read (came (new_reader asked) bytes) piece

-- ---- steps as a loop does them

pub steps_more : (n i : ℕ) (r later all : Reader) → i < n → later ≡ next r → steps (n - i) r ≡ all
    → steps (n - (i + 1)) later ≡ all
steps_more n i r later all within is so_far =
    let count : n - i ≡ suc (n - (i + 1)) = omega (arith, within) in
    ap (steps (n - (i + 1))) is ∙ sym (ap (λ (k : ℕ). steps k r) count) ∙ so_far

pub steps_still : (k : ℕ) (r later all : Reader) → later ≡ next r → later ≡ r → steps k r ≡ all → later ≡ all
steps_still k r later all is same so_far = same ∙ sym (still k r (sym is ∙ same)) ∙ so_far

pub steps_done : (n i : ℕ) (r all : Reader) → n ≤ i → steps (n - i) r ≡ all → r ≡ all
steps_done n i r all past so_far =
    let none : n - i ≡ 0 = omega (arith, past) in
    sym (ap (λ (k : ℕ). steps k r) none) ∙ so_far

-- ---- what is answered

-- a reader that failed forgets what comes
failed_feeds : (r : Reader) (fault : RecordFault) (piece : List ℕ) → r.stage ≡ Failed fault
    → fed r piece ≡ stopped fault r
failed_feeds r fault piece e =
    sym (read_next (came r piece))
    ∙ ap (λ (s : Stage). read_on (next_at s (came r piece))) e
    ∙ read_still (stopped fault r) refl

pub feeds_failed : (fault : RecordFault) (old new : Reader) (piece : List ℕ) → old.stage ≡ Failed fault
    → new ≡ stopped fault old → Feeds (Err fault) old new piece
feeds_failed OutOfMemory old new piece e is =
    record { first = ap (failed_by OutOfMemory) e; is_kept = ap (λ (r : Reader). r.stage) is }
feeds_failed BadMagic old new piece e is =
    (is ∙ sym (failed_feeds old BadMagic piece e), sym (ap feed_answer is))
feeds_failed (BadField at) old new piece e is =
    (is ∙ sym (failed_feeds old (BadField at) piece e), sym (ap feed_answer is))
feeds_failed (Truncated at) old new piece e is =
    (is ∙ sym (failed_feeds old (Truncated at) piece e), sym (ap feed_answer is))
