-- A record fed in pieces: one more piece, its end, and the piece that goes past the limit.
use Rattle.std.proofs.Common.{◌≡◌, ℕ, ◌+◌, ◌-◌, ◌<◌, ◌≤◌, true, List, [], ◌++◌, length, Option, Some, None, Result, Ok, Err, refl, sym, ap, ◌∙◌, subst, arith, length-append}
use Rattle.std.specs.Prelude.{is_some}
use Rattle.std.specs.Result.{result_err}
use Rattle.std.specs.Io.KnownBytes.{Consumes}
use Rattle.std.proofs.KnownBytes.{Consumes-trans}
use Rattle.dd_io.specs.Transfer.{GivesMoreThan}
use Rattle.dd_record.specs.declared.fault.RecordFault.{RecordFault}
use Rattle.dd_record.specs.declared.fault.RecordFault.TheVariants.{BadMagic, BadField, Truncated, OutOfMemory}
use Rattle.dd_view.specs.Player.{Reader, new_reader, fed, reader_of, bytes_come, feed_answer, Feeds, read_on}
use Rattle.dd_view.proofs.Feeding.{feeding_is_reading}
use Rattle.dd_view.proofs.Faults.{fault_stays}
use Rattle.dd_view.proofs.Asked.{reader_keeps}
use Rattle.dd_prog.specs.Viewing.{Fed}

-- ---- what the player has of the bytes

-- no piece was fed yet
pub none_fed : (asked : ℕ) → reader_of asked [] ≡ new_reader asked
unfolding read_on
none_fed asked = refl

-- a fault that was found stays the first one
pub found_before : (fault : Option RecordFault) (asked : ℕ) (b piece : List ℕ) (player : Reader)
    → is_some fault ≡ true → Fed asked b fault player → Fed asked (b ++ piece) fault player
found_before None asked b piece player some so = cc
found_before (Some BadMagic) asked b piece player some so = fault_stays BadMagic asked b piece so
found_before (Some (BadField at)) asked b piece player some so = fault_stays (BadField at) asked b piece so
found_before (Some (Truncated at)) asked b piece player some so = fault_stays (Truncated at) asked b piece so
found_before (Some OutOfMemory) asked b piece player some so = tt

read_more : (asked : ℕ) (b piece : List ℕ) (old new : Reader) → old ≡ reader_of asked b → new ≡ fed old piece
    → new ≡ reader_of asked (b ++ piece)
read_more asked b piece old new so is =
    is ∙ ap (λ (r : Reader). fed r piece) so ∙ feeding_is_reading asked b piece

answered : (fault : RecordFault) (asked : ℕ) (b piece : List ℕ) (old new : Reader) → old ≡ reader_of asked b
    → new ≡ fed old piece → Err fault ≡ feed_answer new → feed_answer (reader_of asked (b ++ piece)) ≡ Err fault
answered fault asked b piece old new so is told =
    subst (λ (r : Reader). feed_answer r ≡ Err fault) (read_more asked b piece old new so is) (sym told)

-- a piece is fed to a player that found none
pub fed_more : (r : Result ℕ RecordFault) (asked : ℕ) (b piece : List ℕ) (old new : Reader) → old ≡ reader_of asked b
    → Feeds r old new piece → Fed asked (b ++ piece) (result_err r) new
fed_more (Ok frames) asked b piece old new so feeds = read_more asked b piece old new so feeds.0
fed_more (Err BadMagic) asked b piece old new so feeds =
    answered BadMagic asked b piece old new so feeds.0 feeds.1
fed_more (Err (BadField at)) asked b piece old new so feeds =
    answered (BadField at) asked b piece old new so feeds.0 feeds.1
fed_more (Err (Truncated at)) asked b piece old new so feeds =
    answered (Truncated at) asked b piece old new so feeds.0 feeds.1
fed_more (Err OutOfMemory) asked b piece old new so feeds = tt

-- a player that found no fault has no more bytes than came
pub fed_few : (fault : Option RecordFault) (asked : ℕ) (b : List ℕ) (player : Reader) → 1 ≤ asked
    → Fed asked b fault player
    → fault ≡ None → bytes_come player ≤ length b
fed_few None asked b player some so none = rw so (reader_keeps asked b some).few
fed_few (Some fault) asked b player some so none = cc

-- ---- the limit

-- a piece goes past the limit, but not far
pub gives_more : (a b c : Option (List ℕ)) (bs piece : List ℕ) (limit chunk : ℕ) → Consumes a b bs → Consumes b c piece
    → length bs ≤ limit → length piece ≤ (limit - length bs) + chunk → limit - length bs < length piece
    → GivesMoreThan limit (limit + chunk) a c
gives_more a b c bs piece limit chunk came next within near past = (
  bs ++ piece,
  omega (arith, length-append bs piece),
  omega (arith, length-append bs piece),
  Consumes-trans a b c bs piece came next,
)
