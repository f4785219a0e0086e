-- The slot of a client's duplicator is the one that its opening was told.
use Rattle.std.proofs.Common.{◌≡◌, ◌≢◌, ℕ, ◌+◌, ◌-◌, ◌<◌, ◌≤◌, Bool, true, false, ◌==◌, List, [], ◌∷◌, ◌++◌, length, Option, Some, None, Result, Ok, Err, refl, sym, ap, ◌∙◌, subst}
use Rattle.std.specs.Prelude.{option_and_then, slice_set, slice_index_or}
use Rattle.std.proofs.lemmas.Bool.{eq-eqb, eqb-true, false≢true}
use Rattle.std.proofs.lemmas.List.{get_or-set_same}
use Rattle.dd_calls.specs.declared.answers.Answer.{Answer}
use Rattle.dd_calls.specs.declared.answers.Answer.TheVariants as answers
use Rattle.dd_calls.specs.declared.answers.OpenRefusal.{OpenRefusal}
use Rattle.dd_calls.specs.declared.answers.CloseRefusal.{CloseRefusal}
use Rattle.dd_log.specs.declared.events.Entry.{Entry}
use Rattle.dd_log.specs.declared.events.Event.TheVariants as events
use Rattle.dd_log.specs.History.{History, Begins, with_entry}
use Rattle.dd_log.specs.Slots.{entry_slot, slot_at}
use Rattle.dd_table.specs.Opening.{opening, closing}
use Rattle.dd_calls.specs.declared.dup_call.DupCall.{DupCall}
use Rattle.dd_calls.specs.declared.dup_call.DupCall.TheVariants as asked
use Rattle.dd_dup.specs.Reply.{Memory, fresh_memory, reply}
use Rattle.dd_dup.proofs.Loss.{opening_within}
use Rattle.dd_calls.specs.declared.steps.Step.{Step}
use Rattle.dd_calls.specs.declared.steps.Step.TheVariants as steps
use Rattle.dd_calls.specs.declared.steps.ClientCall.{ClientCall}
use Rattle.dd_calls.specs.declared.steps.ClientCall.TheVariants as calls
use Rattle.dd_trace.specs.Independence.{is_of}
use Rattle.dd_station.specs.Run.{State, next, next_number, app_of, entry_of, memory_of, client_reply, opening_outcome, closing_outcome, asking_outcome, call_outcome}
use Rattle.dd_calls.specs.Calls.{IsOfClient}
use Rattle.dd_dup.specs.Reply.{slot_of}
use Rattle.dd_trace.specs.Trace.{Moment, moment_of, where_is, is_opened, opening_of}
use Rattle.dd_calls.specs.Parts.{slot_in}
use Rattle.dd_trace.specs.Entered.{slot_told}
use Rattle.dd_station.proofs.Kept.{reply_opened}
use Rattle.dd_trace.proofs.Running.{IsRun, StandsFor, stands_for, place_of}
use Rattle.dd_trace.proofs.Others.{begins_next, begins_called, other_called}
use Rattle.dd_trace.proofs.LookingBack.{opens_or_closes, last-beside, last-now, last-other}
use Rattle.dd_trace.proofs.Remembering.{called, then_called}
use Rattle.dd_trace.proofs.Quiet.{client_quiet}
use Rattle.dd_trace.proofs.Placed.{slot-later, get-last}

-- the slot of a memory's opening is the one that was told; and so for each of n clients
abbrev pub SlotIsTold : ℕ → List Moment → Option Memory → History → Type 0
SlotIsTold k before None h = Unit {0}
SlotIsTold k before (Some d) h = slot_told k before ≡ slot_at h d.opened

abbrev pub SlotsTold : ℕ → List Moment → State → Type 0
SlotsTold n before s = (k : ℕ) → 1 ≤ k → k ≤ n → SlotIsTold k before (memory_of s k) s.history

-- where the opening stays the same one, in the list and as it was told
slot_stays : (k : ℕ) (before now : List Moment) (d new : Memory) (h later : History) → StandsFor (Some d) h
    → Begins h later → opening_of k now ≡ opening_of k before → new.opened ≡ d.opened
    → SlotIsTold k before (Some d) h → SlotIsTold k now (Some new) later
slot_stays k before now d new h later stands begins told opened slot =
    ap (option_and_then (λ (m : Moment). slot_in m.answer)) told
    ∙ slot
    ∙ ap (slot_at h) (sym opened)
    ∙ sym (slot-later h later new.opened begins
    (subst (λ n. n < length h.entries) (ap (λ (m : Memory). m.opened) stands.1 ∙ sym opened)
    (opening_within h.entries stands.0.memory.opened stands.2.opened)))

stays : (k : ℕ) (before now : List Moment) (o : Option Memory) (h later : History) → StandsFor o h → Begins h later
    → opening_of k now ≡ opening_of k before → SlotIsTold k before o h → SlotIsTold k now o later
stays k before now None h later stands begins told slot = tt
stays k before now (Some d) h later stands begins told slot =
    slot_stays k before now d d h later stands begins told refl slot

module _ (s : State) (k : ℕ) (before : List Moment) (there : k - 1 < length s.memories) (run : IsRun s) where
  own : is_of k (steps.Call k calls.Close) ≡ true
  own = eq-eqb k k refl

  -- a call that opens and closes nothing
  opening_stays : (call : ClientCall) (a : Answer) → opens_or_closes a ≡ false
      → opening_of k (then_called before s.history (memory_of s k) k call a) ≡ opening_of k before
  opening_stays call a none =
      ap (where_is is_opened)
      (last-beside k opens_or_closes before (called s.history (memory_of s k) k call a) own none)

  slot_set : (now : List Moment) (m : Option Memory) (h : History) → SlotIsTold k now m h
      → SlotIsTold k now (slice_index_or (slice_set s.memories (k - 1) m) (k - 1) None) h
  slot_set now m h slot =
      subst (λ (x : Option Memory). SlotIsTold k now x h) (sym (get_or-set_same s.memories (k - 1) m None there)) slot

  slot_opening : (r : Result ℕ OpenRefusal) → SlotIsTold k before (memory_of s k) s.history
      → SlotIsTold k (then_called before s.history (memory_of s k) k calls.Duplicate (opening_outcome r s k).0)
      (memory_of (opening_outcome r s k).1 k) (opening_outcome r s k).1.history
  slot_opening (Ok slot) told =
      let h = s.history in
      let e : Entry = entry_of s k (events.Opened slot (app_of s k)) in
      let a = answers.Opened (next_number s) slot in
      let now = then_called before h (memory_of s k) k calls.Duplicate a in
      slot_set now (Some (fresh_memory h (length h.entries))) (with_entry h e)
      (ap (λ x. option_and_then (λ (m : Moment). slot_in m.answer) (where_is is_opened x))
      (last-now k opens_or_closes before (called h (memory_of s k) k calls.Duplicate a) own refl)
      ∙ sym (ap entry_slot (get-last h.entries e)))
  slot_opening (Err cause) told =
      let now = then_called before s.history (memory_of s k) k calls.Duplicate (answers.NotOpened cause) in
      stays k before now (memory_of s k) s.history s.history (stands_for s k run) (begins_called s k calls.Surface)
      (opening_stays calls.Duplicate (answers.NotOpened cause) refl) told

  slot_closing : (r : Result ℕ CloseRefusal) → SlotIsTold k before (memory_of s k) s.history
      → SlotIsTold k (then_called before s.history (memory_of s k) k calls.Close (closing_outcome r s k).0)
      (memory_of (closing_outcome r s k).1 k) (closing_outcome r s k).1.history
  slot_closing (Ok slot) told =
      slot_set
      (then_called before s.history (memory_of s k) k calls.Close (answers.Closed (next_number s))) None
      (with_entry s.history (entry_of s k (events.Closed slot))) tt
  slot_closing (Err cause) told =
      let now = then_called before s.history (memory_of s k) k calls.Close (answers.NotClosed cause) in
      stays k before now (memory_of s k) s.history s.history (stands_for s k run) (begins_called s k calls.Surface)
      (opening_stays calls.Close (answers.NotClosed cause) refl) told

  slot_replied : (ask : DupCall) (o : Option Memory) (now : List Moment) → StandsFor o s.history
      → opening_of k now ≡ opening_of k before → SlotIsTold k before o s.history
      → SlotIsTold k now (client_reply ask o s.history).1 s.history
  slot_replied ask None now stands told slot = tt
  slot_replied ask (Some d) now stands told slot =
      slot_stays k before now d (reply ask d s.history).1 s.history s.history stands
      (begins_called s k calls.Surface) told (reply_opened ask d s.history) slot

  slot_asking : (ask : DupCall) (call : ClientCall) → SlotIsTold k before (memory_of s k) s.history
      → SlotIsTold k (then_called before s.history (memory_of s k) k call (asking_outcome s k ask).0)
      (memory_of (asking_outcome s k ask).1 k) s.history
  slot_asking ask call told =
      let r = client_reply ask (memory_of s k) s.history in
      let now = then_called before s.history (memory_of s k) k call r.0 in
      slot_set now r.1 s.history
      (slot_replied ask (memory_of s k) now (stands_for s k run)
      (opening_stays call r.0 (client_quiet ask (memory_of s k) s.history).opens) told)

  slot_call : (call : ClientCall) → SlotIsTold k before (memory_of s k) s.history
      → SlotIsTold k (then_called before s.history (memory_of s k) k call (call_outcome s k call).0)
      (memory_of (call_outcome s k call).1 k) (call_outcome s k call).1.history
  slot_call calls.Duplicate told = slot_opening (opening s.history (app_of s k)) told
  slot_call calls.Close told = slot_closing (closing s.history (slot_of (memory_of s k) s.history)) told
  slot_call (calls.Acquire timeout) told = slot_asking asked.Acquire (calls.Acquire timeout) told
  slot_call calls.Release told = slot_asking asked.Release calls.Release told
  slot_call (calls.Moves size) told = slot_asking (asked.Moves size) (calls.Moves size) told
  slot_call (calls.Dirty size) told = slot_asking (asked.Dirty size) (calls.Dirty size) told
  slot_call (calls.Shape size) told = slot_asking (asked.Shape size) (calls.Shape size) told
  slot_call calls.Surface told = slot_asking asked.Surface calls.Surface told
  slot_call calls.Desc told = slot_asking asked.Desc calls.Desc told

-- a call of this client, or of another one
slot_called : (own : Bool) (s : State) (j k : ℕ) (call : ClientCall) (before : List Moment) → (j == k) ≡ own → IsRun s
    → 1 ≤ j → 1 ≤ k → j - 1 < length s.memories → SlotIsTold k before (memory_of s k) s.history
    → SlotIsTold k (then_called before s.history (memory_of s j) j call (call_outcome s j call).0)
    (memory_of (call_outcome s j call).1 k) (call_outcome s j call).1.history
slot_called true s j k call before is run from one there told =
    let same : j ≡ k = eqb-true j k is in
    let later = (call_outcome s j call).1 in
    let now = then_called before s.history (memory_of s j) j call (call_outcome s j call).0 in
    subst (λ n. SlotIsTold n now (memory_of later n) later.history) same
    (slot_call s j before there run call
    (subst (λ n. SlotIsTold n before (memory_of s n) s.history) (sym same) told))
slot_called false s j k call before is run from one there told =
    let ne : j ≢ k = λ (e : j ≡ k). false≢true (sym is ∙ eq-eqb j k e) in
    let later = (call_outcome s j call).1 in
    let now = then_called before s.history (memory_of s j) j call (call_outcome s j call).0 in
    subst (λ (m : Option Memory). SlotIsTold k now m later.history) (sym (other_called s j k call from one ne))
    (stays k before now (memory_of s k) s.history later.history (stands_for s k run) (begins_called s j call)
    (ap (where_is is_opened)
    (last-other k opens_or_closes before
    (called s.history (memory_of s j) j call (call_outcome s j call).0) is))
    told)

pub slots_next : (s : State) (t : Step) (before : List Moment) → IsRun s → IsOfClient (length s.clients) t
    → SlotsTold (length s.clients) before s
    → SlotsTold (length s.clients) (before ++ moment_of s t ∷ []) (next s t).1
unfolding next
slots_next s (steps.Draw d) before run client told = λ k one to.
    stays k before (before ++ moment_of s (steps.Draw d) ∷ []) (memory_of s k) s.history
    (next s (steps.Draw d)).1.history (stands_for s k run) (begins_next s (steps.Draw d))
    (ap (where_is is_opened) (last-other k opens_or_closes before (moment_of s (steps.Draw d)) refl)) (told k one to)
slots_next s (steps.Call j call) before run client told = λ k one to.
    slot_called (j == k) s j k call before refl run client.0 one (place_of s j run client.0 client.1) (told k one to)
