-- What the answers tell of the one list: an entry of each step that entered something.
use Rattle.std.specs.Prelude.{◌≡◌, ℕ, ◌+◌, ◌-◌, ◌≤◌, List, [], ◌∷◌, ◌++◌, length, slice_get, slice_index, Option, Some, None, option_map, option_and_then}
use Rattle.std.specs.List.{cons_option, AllByRecursion}
use Rattle.dd_calls.specs.declared.answers.Answer.{Answer}
use Rattle.dd_calls.specs.declared.answers.Answer.TheVariants.{Entered, Opened, Closed}
use Rattle.dd_log.specs.declared.events.Entry.{Entry}
use Rattle.dd_log.specs.declared.events.Event.{Event}
use Rattle.dd_log.specs.declared.events.Event.TheVariants as events
use Rattle.dd_log.specs.History.{History}
use Rattle.dd_calls.specs.declared.steps.Script.{Script}
use Rattle.dd_calls.specs.declared.steps.Step.{Step}
use Rattle.dd_calls.specs.declared.steps.Step.TheVariants as steps
use Rattle.dd_calls.specs.declared.steps.TheConstants.{MAX_CLIENTS}
use Rattle.dd_calls.specs.Calls.{IsOfClient}
use Rattle.dd_calls.specs.Parts.{slot_in}
use Rattle.dd_trace.specs.Trace.{Moment, trace, whole_list, caller, opening_of}

-- the slot that a client's duplicator was given
abbrev pub slot_told : ℕ → List Moment → Option ℕ
slot_told k before = option_and_then (λ m. slot_in m.answer) (opening_of k before)

-- What a step entered, by its answer: a drawing; an opening of the slot that was given, for the client's application; a
-- closing of the slot that the client's duplicator was given.
abbrev pub event_told : List ℕ → List Moment → Step → Answer → Option Event
event_told apps before (steps.Draw d) (Entered number) = Some (events.Draw d)
event_told apps before (steps.Call k call) (Opened number slot) = Some (events.Opened slot (slice_index apps (k - 1)))
event_told apps before (steps.Call k call) (Closed number) =
    option_map (λ slot. events.Closed slot) (slot_told k before)
event_told apps before t a = None

-- with its actor, and the number of the step, from 1
abbrev pub entry_told : List ℕ → List Moment → Moment → Option Entry
entry_told apps before m =
    option_map (λ event. record { actor = caller m.step; step = length before + 1; event = event })
    (event_told apps before m.step m.answer)

-- the entries that moments tell, after others
abbrev pub entries_told : List ℕ → List Moment → List Moment → List Entry
entries_told apps before [] = []
entries_told apps before (m ∷ ms) = cons_option (entry_told apps before m) (entries_told apps (before ++ m ∷ []) ms)

-- Where an answer names an event number an entry is told, and nowhere else: the number is that of the next place, and
-- the list has the entry there.
abbrev pub IsEntered : History → ℕ → Option ℕ → Option Entry → Type 0
IsEntered list place None None = Unit {0}
IsEntered list place (Some number) (Some e) = (number ≡ place + 1) × (slice_get list.entries place ≡ Some e)
IsEntered list place number e = ⊥

-- the one list has the entries that the answers told, in their order, and no other
abbrev pub ListIsTold : Type 0
ListIsTold =
    (script : Script) → length script.clients ≤ MAX_CLIENTS
    → AllByRecursion (IsOfClient (length script.clients)) script.steps
    → (whole_list script).entries ≡ entries_told script.clients [] (trace script)
