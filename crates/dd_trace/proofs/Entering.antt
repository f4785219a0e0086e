-- Each step enters what its answer tells, and nothing else.
use Rattle.std.proofs.Common.{◌≡◌, ℕ, ◌+◌, ◌-◌, List, [], ◌∷◌, ◌++◌, length, Option, Some, None, Result, Ok, Err, refl, sym, ap, ◌∙◌, append-nil}
use Rattle.std.specs.Prelude.{option_map}
use Rattle.std.specs.List.{cons_option}
use Rattle.dd_calls.specs.declared.answers.Answer.TheVariants as answers
use Rattle.dd_log.specs.declared.refusal.LogRefusal.{LogRefusal}
use Rattle.dd_calls.specs.declared.answers.OpenRefusal.{OpenRefusal}
use Rattle.dd_calls.specs.declared.answers.CloseRefusal.{CloseRefusal}
use Rattle.dd_log.specs.declared.events.Draw.{Draw}
use Rattle.dd_log.specs.declared.events.Entry.{Entry}
use Rattle.dd_log.specs.declared.events.Event.{Event}
use Rattle.dd_log.specs.declared.events.Event.TheVariants as events
use Rattle.dd_log.specs.History.{History, Begins, allowed}
use Rattle.dd_table.specs.Opening.{opening, closing}
use Rattle.dd_table.proofs.Openings.{closing_granted}
use Rattle.dd_calls.specs.declared.dup_call.DupCall.{DupCall}
use Rattle.dd_calls.specs.declared.dup_call.DupCall.TheVariants as asked
use Rattle.dd_dup.specs.Reply.{Memory}
use Rattle.dd_calls.specs.declared.steps.Step.{Step}
use Rattle.dd_calls.specs.declared.steps.Step.TheVariants as steps
use Rattle.dd_calls.specs.declared.steps.ClientCall.{ClientCall}
use Rattle.dd_calls.specs.declared.steps.ClientCall.TheVariants as calls
use Rattle.dd_station.specs.Run.{State, next, next_number, app_of, entry_of, memory_of, draw_answer, draw_history, opening_outcome, closing_outcome, asking_outcome, call_outcome}
use Rattle.dd_calls.specs.Calls.{IsOfClient}
use Rattle.dd_dup.specs.Reply.{slot_of}
use Rattle.dd_trace.specs.Trace.{Moment, moment_of, place_of, caller}
use Rattle.dd_calls.specs.Parts.{number_in}
use Rattle.dd_trace.specs.Entered.{slot_told, event_told, entry_told, IsEntered}
use Rattle.dd_trace.proofs.Remembering.{called}
use Rattle.dd_trace.proofs.Placed.{added_there}
use Rattle.dd_trace.proofs.Quiet.{client_quiet}
use Rattle.dd_trace.proofs.SlotsTold.{SlotIsTold, SlotsTold}

-- a number is named where an entry is told, and it is that of the next place
abbrev IsNumbered : ℕ → Option ℕ → Option Entry → Type 0
IsNumbered place None None = Unit {0}
IsNumbered place (Some number) (Some e) = number ≡ place + 1
IsNumbered place number e = ⊥

-- a step enters what its answer tells, and leaves this list
pub record Enters (apps : List ℕ) (before : List Moment) (m : Moment) (later : History) : Type 0 where
  numbered : IsNumbered (place_of m) (number_in m.answer) (entry_told apps before m)
  pub entries : later.entries ≡ m.list.entries ++ cons_option (entry_told apps before m) []

-- the entry stands in each list that begins with the one that the step leaves
entered_by : (number : Option ℕ) (told : Option Entry) (es : List Entry) (later last : History)
    → IsNumbered (length es) number told → later.entries ≡ es ++ cons_option told [] → Begins later last
    → IsEntered last (length es) number told
entered_by None None es later last numbered is begins = tt
entered_by (Some number) None es later last numbered is begins = absurd numbered
entered_by None (Some e) es later last numbered is begins = absurd numbered
entered_by (Some number) (Some e) es later last numbered is begins =
    (numbered, added_there es e later last is begins)

pub entered_there : (apps : List ℕ) (before : List Moment) (m : Moment) (later last : History)
    → Enters apps before m later → Begins later last
    → IsEntered last (place_of m) (number_in m.answer) (entry_told apps before m)
entered_there apps before m later last enters begins =
    entered_by (number_in m.answer) (entry_told apps before m) m.list.entries later last enters.numbered
    enters.entries begins

-- ---- a step that enters nothing

numbered_none : (place : ℕ) (number : Option ℕ) (told : Option Entry) → number ≡ None → told ≡ None
    → IsNumbered place number told
numbered_none place None None n t = tt
numbered_none place (Some number) told n t = cc
numbered_none place None (Some e) n t = cc

enters_nothing : (apps : List ℕ) (before : List Moment) (m : Moment) → number_in m.answer ≡ None
    → event_told apps before m.step m.answer ≡ None → Enters apps before m m.list
enters_nothing apps before m number event =
    let told : entry_told apps before m ≡ None =
    ap
    (option_map (λ (x : Event). record { actor = caller m.step; step = length before + 1; event = x }))
    event in
    record {
      numbered = numbered_none (place_of m) (number_in m.answer) (entry_told apps before m) number told;
      entries =
          sym (append-nil m.list.entries)
          ∙ ap (λ (o : Option Entry). m.list.entries ++ cons_option o []) (sym told);
    }

-- ---- each step

-- the entry of the next step has the number after those before it
next_entry : (s : State) (before : List Moment) (actor : ℕ) (event : Event) → s.steps ≡ length before
    → s.history.entries ++ entry_of s actor event ∷ []
    ≡ s.history.entries ++ record { actor = actor; step = length before + 1; event = event } ∷ []
next_entry s before actor event counted =
    ap
    (λ n. s.history.entries ++ record { actor = actor; step = n + 1; event = event } ∷ [])
    counted

enters_drawing : (why : Option LogRefusal) (s : State) (d : Draw) (before : List Moment) → s.steps ≡ length before
    → Enters s.clients before
    (record { list = s.history; memory = None; step = steps.Draw d; answer = draw_answer why (next_number s) })
    (draw_history why s.history (entry_of s 0 (events.Draw d)))
enters_drawing None s d before counted =
    record { numbered = refl; entries = next_entry s before 0 (events.Draw d) counted }
enters_drawing (Some why) s d before counted =
    enters_nothing s.clients before
    (record { list = s.history; memory = None; step = steps.Draw d; answer = answers.NotDrawn why }) refl refl

enters_opening : (r : Result ℕ OpenRefusal) (s : State) (k : ℕ) (o : Option Memory) (before : List Moment)
    → s.steps ≡ length before
    → Enters s.clients before (called s.history o k calls.Duplicate (opening_outcome r s k).0)
    (opening_outcome r s k).1.history
enters_opening (Ok slot) s k o before counted =
    record { numbered = refl; entries = next_entry s before k (events.Opened slot (app_of s k)) counted }
enters_opening (Err why) s k o before counted =
    enters_nothing s.clients before (called s.history o k calls.Duplicate (answers.NotOpened why)) refl refl

-- the slot of a closing is the one that was told
told_slot : (k : ℕ) (before : List Moment) (o : Option Memory) (h : History) (slot : ℕ) → SlotIsTold k before o h
    → slot_of o h ≡ Some slot → slot_told k before ≡ Some slot
told_slot k before None h slot told is = cc
told_slot k before (Some d) h slot told is = told ∙ is

enters_closing : (r : Result ℕ CloseRefusal) (s : State) (k : ℕ) (before : List Moment)
    → closing s.history (slot_of (memory_of s k) s.history) ≡ r → s.steps ≡ length before
    → SlotIsTold k before (memory_of s k) s.history
    → Enters s.clients before (called s.history (memory_of s k) k calls.Close (closing_outcome r s k).0)
    (closing_outcome r s k).1.history
enters_closing (Err why) s k before is counted told =
    enters_nothing s.clients before (called s.history (memory_of s k) k calls.Close (answers.NotClosed why)) refl refl
enters_closing (Ok slot) s k before is counted told =
    let own = slot_of (memory_of s k) s.history in
    let named : Some slot ≡ slot_told k before =
    sym (told_slot k before (memory_of s k) s.history slot told (closing_granted s.history own slot is)) in
    let entry =
    option_map (λ (event : Event). record { actor = k; step = length before + 1; event = event }) in
    let by_slot = λ (o : Option ℕ). entry (option_map (λ x. events.Closed x) o) in
    record {
      numbered = closes (slot_told k before) named;
      entries =
          next_entry s before k (events.Closed slot) counted
          ∙ ap (λ (o : Option ℕ). s.history.entries ++ cons_option (by_slot o) []) named;
    } where
      closes : (o : Option ℕ) → Some slot ≡ o
          → IsNumbered (length s.history.entries) (Some (next_number s))
          (option_map (λ (event : Event). record { actor = k; step = length before + 1; event = event })
          (option_map (λ x. events.Closed x) o))
      closes None e = cc
      closes (Some x) e = refl

enters_asking : (ask : DupCall) (s : State) (k : ℕ) (call : ClientCall) (before : List Moment)
    → Enters s.clients before (called s.history (memory_of s k) k call (asking_outcome s k ask).0) s.history
enters_asking ask s k call before =
    let quiet = client_quiet ask (memory_of s k) s.history in
    enters_nothing s.clients before (called s.history (memory_of s k) k call (asking_outcome s k ask).0) quiet.number
    (quiet.event s.clients before k call)

enters_call : (s : State) (k : ℕ) (call : ClientCall) (before : List Moment) → s.steps ≡ length before
    → SlotIsTold k before (memory_of s k) s.history
    → Enters s.clients before (called s.history (memory_of s k) k call (call_outcome s k call).0)
    (call_outcome s k call).1.history
enters_call s k calls.Duplicate before counted told =
    enters_opening (opening s.history (app_of s k)) s k (memory_of s k) before counted
enters_call s k calls.Close before counted told =
    enters_closing (closing s.history (slot_of (memory_of s k) s.history)) s k before refl counted told
enters_call s k (calls.Acquire timeout) before counted told =
    enters_asking asked.Acquire s k (calls.Acquire timeout) before
enters_call s k calls.Release before counted told = enters_asking asked.Release s k calls.Release before
enters_call s k (calls.Moves size) before counted told =
    enters_asking (asked.Moves size) s k (calls.Moves size) before
enters_call s k (calls.Dirty size) before counted told =
    enters_asking (asked.Dirty size) s k (calls.Dirty size) before
enters_call s k (calls.Shape size) before counted told =
    enters_asking (asked.Shape size) s k (calls.Shape size) before
enters_call s k calls.Surface before counted told = enters_asking asked.Surface s k calls.Surface before
enters_call s k calls.Desc before counted told = enters_asking asked.Desc s k calls.Desc before

pub enters_next : (s : State) (t : Step) (before : List Moment) → IsOfClient (length s.clients) t
    → s.steps ≡ length before → SlotsTold (length s.clients) before s
    → Enters s.clients before (moment_of s t) (next s t).1.history
unfolding next
enters_next s (steps.Draw d) before client counted told =
    enters_drawing (allowed s.history d) s d before counted
enters_next s (steps.Call k call) before client counted told =
    enters_call s k call before counted (told k client.0 client.1)
