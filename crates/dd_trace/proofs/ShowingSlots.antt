-- The slot that a client is given is the least free one.
use Rattle.std.proofs.Common.{◌≡◌, ℕ, Bool, true, false, if◌then◌else◌, Option, Some, None, Result, Ok, Err, refl}
use Rattle.std.specs.Prelude.{position, is_none}
use Rattle.dd_log.specs.History.{History, desk, is_full, allowed}
use Rattle.dd_log.specs.declared.refusal.LogRefusal.{LogRefusal}
use Rattle.dd_calls.specs.declared.answers.CloseRefusal.{CloseRefusal}
use Rattle.dd_calls.specs.declared.answers.OpenRefusal.{OpenRefusal}
use Rattle.dd_calls.specs.declared.answers.OpenRefusal.TheVariants.{SessionDisconnected, AccessDenied, AlreadyDuplicating, NotAvailable, Full}
use Rattle.dd_calls.specs.declared.steps.Step.{Step}
use Rattle.dd_calls.specs.declared.steps.Step.TheVariants as steps
use Rattle.dd_calls.specs.declared.steps.ClientCall.{ClientCall}
use Rattle.dd_calls.specs.declared.steps.ClientCall.TheVariants as calls
use Rattle.dd_calls.specs.declared.dup_call.DupCall.{DupCall}
use Rattle.dd_calls.specs.declared.dup_call.DupCall.TheVariants as asks
use Rattle.dd_table.specs.Opening.{is_away, is_denied, is_duplicating, least_free, opening, closing}
use Rattle.dd_dup.specs.Reply.{slot_of}
use Rattle.dd_station.specs.Run.{State, next, next_number, app_of, memory_of, draw_answer, opening_outcome, closing_outcome, asking_outcome, call_outcome}
use Rattle.dd_trace.specs.Headline.{SlotShows}
use Rattle.dd_trace.proofs.Quiet.{client_quiet}

has_room : (full : Bool) (free slot : ℕ) → (if full then Err Full else Ok free) ≡ Ok slot → Some free ≡ Some slot
has_room true free slot e = cc
has_room false free slot e = cc

is_least : (o : Option ℕ) (h : History) (slot : ℕ) → least_free o h ≡ Ok slot → o ≡ Some slot
is_least None h slot e = cc
is_least (Some free) h slot e = has_room (is_full h) free slot e

granted_least : (away denied taken : Bool) (o : Option ℕ) (h : History) (slot : ℕ)
    → (if away then Err SessionDisconnected
    else (if denied then Err AccessDenied else (if taken then Err AlreadyDuplicating else least_free o h))) ≡ Ok slot
    → o ≡ Some slot
granted_least true denied taken o h slot e = cc
granted_least false true taken o h slot e = cc
granted_least false false true o h slot e = cc
granted_least false false false o h slot e = is_least o h slot e

opened_slot : (r : Result ℕ OpenRefusal) (s : State) (k : ℕ) → opening s.history (app_of s k) ≡ r
    → SlotShows s.history (opening_outcome r s k).0
opened_slot (Ok slot) s k e =
    granted_least (is_away s.history) (is_denied s.history (app_of s k)) (is_duplicating s.history (app_of s k))
    (position is_none (desk s.history).slots) s.history slot e
opened_slot (Err cause) s k e = tt

closed_slot : (r : Result ℕ CloseRefusal) (s : State) (k : ℕ) → SlotShows s.history (closing_outcome r s k).0
closed_slot (Ok slot) s k = tt
closed_slot (Err cause) s k = tt

drawn_slot : (r : Option LogRefusal) (number : ℕ) (h : History) → SlotShows h (draw_answer r number)
drawn_slot None number h = tt
drawn_slot (Some cause) number h = tt

asked_slot : (s : State) (k : ℕ) (ask : DupCall) → SlotShows s.history (asking_outcome s k ask).0
asked_slot s k ask = (client_quiet ask (memory_of s k) s.history).slot s.history

called_slot : (s : State) (k : ℕ) (call : ClientCall) → SlotShows s.history (call_outcome s k call).0
called_slot s k calls.Duplicate = opened_slot (opening s.history (app_of s k)) s k refl
called_slot s k calls.Close = closed_slot (closing s.history (slot_of (memory_of s k) s.history)) s k
called_slot s k (calls.Acquire timeout) = asked_slot s k asks.Acquire
called_slot s k calls.Release = asked_slot s k asks.Release
called_slot s k (calls.Moves size) = asked_slot s k (asks.Moves size)
called_slot s k (calls.Dirty size) = asked_slot s k (asks.Dirty size)
called_slot s k (calls.Shape size) = asked_slot s k (asks.Shape size)
called_slot s k calls.Surface = asked_slot s k asks.Surface
called_slot s k calls.Desc = asked_slot s k asks.Desc

pub next_slot : (s : State) (t : Step) → SlotShows s.history (next s t).0
unfolding next
next_slot s (steps.Draw d) = drawn_slot (allowed s.history d) (next_number s) s.history
next_slot s (steps.Call k call) = called_slot s k call
