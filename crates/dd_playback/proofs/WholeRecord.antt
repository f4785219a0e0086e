-- A client's whole record: it is read to its end, and shows the client's frames.
use Rattle.std.proofs.Common.{◌≡◌, ◌≤◌, true, List, length, ap, ◌∙◌, subst}
use Rattle.std.specs.List.{list_all}
use Rattle.std.proofs.lemmas.Bool.{and_parts}
use Rattle.dd_modes.specs.Modes.{are_modes}
use Rattle.dd_record.specs.declared.chunk.Chunk.{Chunk}
use Rattle.dd_record.specs.Writing.{record_bytes}
use Rattle.dd_log.specs.declared.events.Spec.{Spec}
use Rattle.dd_log.specs.declared.events.TheConstants.{MAX_CAPACITY}
use Rattle.dd_log.specs.History.{begun}
use Rattle.dd_calls.specs.declared.steps.Script.{Script}
use Rattle.dd_station.specs.Run.{start}
use Rattle.dd_trace.specs.Trace.{trace}
use Rattle.dd_script_read.specs.Script.{IsRunnable, keeps_limits}
use Rattle.dd_script_read.specs.Readable.{is_number, is_step, is_readable}
use Rattle.dd_script_write.specs.Spelling.{spelling}
use Rattle.dd_script_laws.proofs.InRange.{is_read}
use Rattle.dd_script_laws.proofs.ReadBack.{script_back}
use Rattle.dd_script_read.proofs.Runnable.{script_runs}
use Rattle.dd_view.specs.Playing.{nothing_played}
use Rattle.dd_view.specs.Player.{Reader, reader_of, finish_answer}
use Rattle.dd_view.specs.Records.{read_whole}
use Rattle.dd_view.proofs.WholeRecords.{reads_records}
use Rattle.dd_playback.specs.Records.{RecordsAreRead, RecordsShowFrames}
use Rattle.dd_playback.specs.Records.{RecordsAreViewed}
use Rattle.dd_trace.proofs.Running.{run_begun}
use Rattle.dd_playback.proofs.ByCalls.{all_left, chunks_told}
use Rattle.dd_playback.proofs.Played.{none_follows, records_play_back}
use Rattle.dd_playback.proofs.Ranges.{IsInRange}
use Rattle.dd_playback.proofs.RuleKeeping.{follow_all}

-- a script whose parts are in their ranges can be run
pub can_run : (script : Script) → is_readable script ≡ true → IsRunnable script
can_run script t = script_runs (spelling script) script (script_back script t)

-- what the ranges say of its modes and its steps
parts_of_readable : (script : Script) → is_readable script ≡ true
    → (are_modes script.spec.modes ≡ true) × (list_all is_step script.steps ≡ true)
unfolding is_readable
parts_of_readable script t =
    let e = and_parts _ (keeps_limits script) t in
    let d = and_parts _ (list_all is_step script.steps) e.0 in
    let c = and_parts _ (list_all is_number script.clients) d.0 in
    let b = and_parts _ (list_all is_number script.spec.privileged) c.0 in
    let a = and_parts (are_modes script.spec.modes) (is_number script.spec.capacity) b.0 in
    (a.0, d.1)

-- the empty list is in range
range_begun : (spec : Spec) → are_modes spec.modes ≡ true → 1 ≤ spec.capacity → spec.capacity ≤ MAX_CAPACITY
    → IsInRange (begun spec)
range_begun spec modes some few = record { modes = modes; some = some; few = few; pointers = tt }

pub records_are_read : RecordsAreRead
unfolding trace
records_are_read script c k t one =
    let parts = parts_of_readable script t in
    let runnable = can_run script t in
    let s = start script.spec script.clients in
    subst (λ (cs : List Chunk). reader_of k (record_bytes cs) ≡ read_whole k cs) (chunks_told c s script.steps)
    (reads_records k (all_left c s script.steps)
    (follow_all k nothing_played s c script.steps (run_begun script.spec script.clients runnable.few)
    (range_begun script.spec parts.0 runnable.capacity_low runnable.capacity_high) one runnable.calls parts.1
    (none_follows (length script.clients) c s.history)))

pub records_show_frames : RecordsShowFrames
records_show_frames script c k t one from =
    ap (λ (r : Reader). r.played.shown) (records_are_read script c k t one)
    ∙ records_play_back script c k (can_run script t) one from

pub records_are_viewed : RecordsAreViewed
records_are_viewed b script c k shown reads one from there =
    let t = is_read reads.0 script reads.2 in (
      ap finish_answer (records_are_read script c k t one),
      records_show_frames script c k t one from ∙ there,
    )
