-- A fault that a reader found stays, whatever bytes come behind it.
use Rattle.std.proofs.Common.{◌≡◌, ℕ, zero, suc, List, ◌++◌, length, Err, refl}
use Rattle.dd_record.specs.declared.fault.RecordFault.{RecordFault}
use Rattle.dd_view.specs.declared.stage.Stage.{Stage}
use Rattle.dd_view.specs.declared.stage.Stage.TheVariants.{Begun, Going, Ended, Failed}
use Rattle.dd_view.specs.Player.{Reader, next, steps, read_on, came, fed, reader_of, counted, feed_answer, finish_answer}
use Rattle.dd_view.proofs.Feeding.{feeding_is_reading}

-- the stage of a reader that tells a fault
failed : (fault : RecordFault) (stage : Stage) (frames : ℕ) → counted stage frames ≡ Err fault → stage ≡ Failed fault
failed fault Begun frames e = cc
failed fault Going frames e = cc
failed fault Ended frames e = cc
failed fault (Failed found) frames e = cc

stays_in_steps : (n : ℕ) (fault : RecordFault) (r : Reader) → r.stage ≡ Failed fault
    → (steps n r).stage ≡ Failed fault
stays_in_steps zero fault r e = e
stays_in_steps (suc n) fault r e = stays_in_steps n fault (next r) (rw e refl)

stays_read : (fault : RecordFault) (r : Reader) → r.stage ≡ Failed fault → (read_on r).stage ≡ Failed fault
unfolding read_on
stays_read fault r e = stays_in_steps (length r.rest) fault r e

-- it is told at the end too
pub fault_is_told : (fault : RecordFault) (r : Reader) → feed_answer r ≡ Err fault → finish_answer r ≡ Err fault
fault_is_told fault r e = rw (failed fault r.stage r.played.frames e) refl

pub fault_stays : (fault : RecordFault) (asked : ℕ) (bytes piece : List ℕ)
    → feed_answer (reader_of asked bytes) ≡ Err fault → feed_answer (reader_of asked (bytes ++ piece)) ≡ Err fault
fault_stays fault asked bytes piece e =
    let r : Reader = reader_of asked bytes in
    let stays = stays_read fault (came r piece) (failed fault r.stage r.played.frames e) in
    let all : feed_answer (fed r piece) ≡ Err fault = rw stays refl in
    rw (← feeding_is_reading asked bytes piece) all
