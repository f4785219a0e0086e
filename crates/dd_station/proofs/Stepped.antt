-- A step keeps the clients, and is counted.
use Rattle.std.proofs.Common.{◌≡◌, ℕ, ◌+◌, Result, Ok, Err, refl}
use Rattle.dd_calls.specs.declared.answers.OpenRefusal.{OpenRefusal}
use Rattle.dd_calls.specs.declared.answers.CloseRefusal.{CloseRefusal}
use Rattle.dd_table.specs.Opening.{opening, closing}
use Rattle.dd_calls.specs.declared.steps.Step.{Step}
use Rattle.dd_calls.specs.declared.steps.Step.TheVariants as steps
use Rattle.dd_calls.specs.declared.steps.ClientCall.{ClientCall}
use Rattle.dd_calls.specs.declared.steps.ClientCall.TheVariants as calls
use Rattle.dd_station.specs.Run.{State, next, call_outcome, opening_outcome, closing_outcome, app_of, memory_of}
use Rattle.dd_dup.specs.Reply.{slot_of}

stepped_opening : (r : Result ℕ OpenRefusal) (s : State) (k : ℕ)
    → ((opening_outcome r s k).1.clients ≡ s.clients) × ((opening_outcome r s k).1.steps ≡ s.steps + 1)
stepped_opening (Ok slot) s k = (refl, refl)
stepped_opening (Err cause) s k = (refl, refl)

stepped_closing : (r : Result ℕ CloseRefusal) (s : State) (k : ℕ)
    → ((closing_outcome r s k).1.clients ≡ s.clients) × ((closing_outcome r s k).1.steps ≡ s.steps + 1)
stepped_closing (Ok slot) s k = (refl, refl)
stepped_closing (Err cause) s k = (refl, refl)

stepped_call : (s : State) (k : ℕ) (call : ClientCall)
    → ((call_outcome s k call).1.clients ≡ s.clients) × ((call_outcome s k call).1.steps ≡ s.steps + 1)
stepped_call s k calls.Duplicate = stepped_opening (opening s.history (app_of s k)) s k
stepped_call s k calls.Close = stepped_closing (closing s.history (slot_of (memory_of s k) s.history)) s k
stepped_call s k (calls.Acquire timeout) = (refl, refl)
stepped_call s k calls.Release = (refl, refl)
stepped_call s k (calls.Moves buffer) = (refl, refl)
stepped_call s k (calls.Dirty buffer) = (refl, refl)
stepped_call s k (calls.Shape buffer) = (refl, refl)
stepped_call s k calls.Surface = (refl, refl)
stepped_call s k calls.Desc = (refl, refl)

pub stepped_next : (s : State) (t : Step)
    → ((next s t).1.clients ≡ s.clients) × ((next s t).1.steps ≡ s.steps + 1)
unfolding next
stepped_next s (steps.Draw d) = (refl, refl)
stepped_next s (steps.Call k call) = stepped_call s k call
