-- After each step what each client's duplicator remembers is what its answers told.
use Rattle.std.proofs.Common.{◌≡◌, ◌≢◌, ℕ, ◌-◌, ◌<◌, ◌≤◌, Bool, true, false, ◌==◌, List, [], ◌∷◌, ◌++◌, length, Option, Some, None, Result, Ok, Err, refl, sym, ◌∙◌, subst}
use Rattle.std.specs.Prelude.{slice_set, slice_index_or}
use Rattle.std.proofs.lemmas.Bool.{eq-eqb, eqb-true, false≢true}
use Rattle.std.proofs.lemmas.List.{get_or-set_same}
use Rattle.dd_calls.specs.declared.answers.Answer.TheVariants as answers
use Rattle.dd_calls.specs.declared.answers.OpenRefusal.{OpenRefusal}
use Rattle.dd_calls.specs.declared.answers.CloseRefusal.{CloseRefusal}
use Rattle.dd_table.specs.Opening.{opening, closing}
use Rattle.dd_calls.specs.declared.dup_call.DupCall.{DupCall}
use Rattle.dd_calls.specs.declared.dup_call.DupCall.TheVariants as asked
use Rattle.dd_dup.specs.Reply.{Memory, fresh_memory}
use Rattle.dd_calls.specs.declared.steps.Step.{Step}
use Rattle.dd_calls.specs.declared.steps.Step.TheVariants as steps
use Rattle.dd_calls.specs.declared.steps.ClientCall.{ClientCall}
use Rattle.dd_calls.specs.declared.steps.ClientCall.TheVariants as calls
use Rattle.dd_station.specs.Run.{State, next, next_number, app_of, memory_of, client_reply, opening_outcome, closing_outcome, asking_outcome, call_outcome}
use Rattle.dd_calls.specs.Calls.{IsOfClient}
use Rattle.dd_dup.specs.Reply.{slot_of}
use Rattle.dd_trace.specs.Trace.{Moment, moment_of}
use Rattle.dd_trace.specs.Headline.{MayRemember}
use Rattle.dd_trace.proofs.Running.{IsRun, place_of}
use Rattle.dd_trace.proofs.Others.{other_called}
use Rattle.dd_trace.proofs.LookingBack.{remembers_same, same-other}
use Rattle.dd_trace.proofs.Remembering.{then_called, told_opened, told_closed, told_beside}
use Rattle.dd_trace.proofs.Told.{told_client}

-- each of n clients has been told what its duplicator remembers
abbrev pub Told : ℕ → List Moment → State → Type 0
Told n before s = (k : ℕ) → 1 ≤ k → k ≤ n → MayRemember k before (memory_of s k)

module _ (s : State) (k : ℕ) (before : List Moment) (there : k - 1 < length s.memories) where
  -- its memory is set
  set_told : (now : List Moment) (m : Option Memory) → MayRemember k now m
      → MayRemember k now (slice_index_or (slice_set s.memories (k - 1) m) (k - 1) None)
  set_told now m told =
      subst (λ (x : Option Memory). MayRemember k now x) (sym (get_or-set_same s.memories (k - 1) m None there)) told

  own_opening : (r : Result ℕ OpenRefusal) (o : Option Memory) → MayRemember k before (memory_of s k)
      → MayRemember k (then_called before s.history o k calls.Duplicate (opening_outcome r s k).0)
      (memory_of (opening_outcome r s k).1 k)
  own_opening (Ok slot) o told =
      set_told (then_called before s.history o k calls.Duplicate (answers.Opened (next_number s) slot))
      (Some (fresh_memory s.history (length s.history.entries)))
      (told_opened k before s.history o calls.Duplicate (next_number s) slot)
  own_opening (Err cause) o told =
      told_beside k before s.history o calls.Duplicate (memory_of s k) (answers.NotOpened cause)
      (record { opens = refl; frame = refl; seen = refl }) told

  own_closing : (r : Result ℕ CloseRefusal) (o : Option Memory) → MayRemember k before (memory_of s k)
      → MayRemember k (then_called before s.history o k calls.Close (closing_outcome r s k).0)
      (memory_of (closing_outcome r s k).1 k)
  own_closing (Ok slot) o told =
      set_told (then_called before s.history o k calls.Close (answers.Closed (next_number s))) None
      (told_closed k before s.history o calls.Close (next_number s))
  own_closing (Err cause) o told =
      told_beside k before s.history o calls.Close (memory_of s k) (answers.NotClosed cause)
      (record { opens = refl; frame = refl; seen = refl }) told

  own_asking : (ask : DupCall) (call : ClientCall) (o : Option Memory) → o ≡ memory_of s k
      → MayRemember k before (memory_of s k)
      → MayRemember k (then_called before s.history o k call (asking_outcome s k ask).0)
      (memory_of (asking_outcome s k ask).1 k)
  own_asking ask call o is told =
      set_told (then_called before s.history o k call (client_reply ask (memory_of s k) s.history).0)
      (client_reply ask (memory_of s k) s.history).1
      (told_client k before s.history o call ask (memory_of s k) is told)

  own_call : (call : ClientCall) (o : Option Memory) → o ≡ memory_of s k → MayRemember k before (memory_of s k)
      → MayRemember k (then_called before s.history o k call (call_outcome s k call).0)
      (memory_of (call_outcome s k call).1 k)
  own_call calls.Duplicate o is told = own_opening (opening s.history (app_of s k)) o told
  own_call calls.Close o is told = own_closing (closing s.history (slot_of (memory_of s k) s.history)) o told
  own_call (calls.Acquire timeout) o is told = own_asking asked.Acquire (calls.Acquire timeout) o is told
  own_call calls.Release o is told = own_asking asked.Release calls.Release o is told
  own_call (calls.Moves size) o is told = own_asking (asked.Moves size) (calls.Moves size) o is told
  own_call (calls.Dirty size) o is told = own_asking (asked.Dirty size) (calls.Dirty size) o is told
  own_call (calls.Shape size) o is told = own_asking (asked.Shape size) (calls.Shape size) o is told
  own_call calls.Surface o is told = own_asking asked.Surface calls.Surface o is told
  own_call calls.Desc o is told = own_asking asked.Desc calls.Desc o is told

-- a call of this client, or of another one
told_call : (own : Bool) (s : State) (j k : ℕ) (call : ClientCall) (before : List Moment) (o : Option Memory)
    → o ≡ memory_of s j → (j == k) ≡ own → 1 ≤ j → 1 ≤ k → j - 1 < length s.memories → MayRemember k before (memory_of s k)
    → MayRemember k (then_called before s.history o j call (call_outcome s j call).0)
    (memory_of (call_outcome s j call).1 k)
told_call true s j k call before o its is from one there told =
    let same : j ≡ k = eqb-true j k is in
    let now = then_called before s.history o j call (call_outcome s j call).0 in
    subst (λ n. MayRemember n now (memory_of (call_outcome s j call).1 n)) same
    (own_call s j before there call o its (subst (λ n. MayRemember n before (memory_of s n)) (sym same) told))
told_call false s j k call before o its is from one there told =
    let ne : j ≢ k = λ (e : j ≡ k). false≢true (sym is ∙ eq-eqb j k e) in
    let now = then_called before s.history o j call (call_outcome s j call).0 in
    subst (λ (m : Option Memory). MayRemember k now m) (sym (other_called s j k call from one ne))
    (remembers_same k before now (memory_of s k) (same-other k before _ is) told)

pub told_next : (s : State) (t : Step) (before : List Moment) → IsRun s → IsOfClient (length s.clients) t
    → Told (length s.clients) before s → Told (length s.clients) (before ++ moment_of s t ∷ []) (next s t).1
unfolding next
told_next s (steps.Draw d) before run client told = λ k one to.
    remembers_same k before (before ++ moment_of s (steps.Draw d) ∷ []) (memory_of s k)
    (same-other k before (moment_of s (steps.Draw d)) refl) (told k one to)
told_next s (steps.Call j call) before run client told = λ k one to.
    told_call (j == k) s j k call before (memory_of s j) refl refl client.0 one (place_of s j run client.0 client.1)
    (told k one to)
