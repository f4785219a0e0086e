-- A step that isn't refused is given what it asks for.
use Rattle.std.proofs.Common.{◌≡◌, ℕ, not, List, Option, Some, None, Result, Ok, Err, refl}
use Rattle.std.specs.Prelude.{is_some}
use Rattle.dd_pointer.specs.declared.shape.ShapeInfo.{ShapeInfo}
use Rattle.dd_calls.specs.declared.answers.Answer.{Answer}
use Rattle.dd_log.specs.declared.refusal.LogRefusal.{LogRefusal}
use Rattle.dd_calls.specs.declared.answers.OpenRefusal.{OpenRefusal}
use Rattle.dd_calls.specs.declared.answers.CloseRefusal.{CloseRefusal}
use Rattle.dd_calls.specs.declared.answers.DupRefusal.{DupRefusal}
use Rattle.dd_log.specs.declared.events.Draw.{Draw}
use Rattle.dd_log.specs.History.{History, allowed}
use Rattle.dd_table.specs.Opening.{opening, closing}
use Rattle.dd_calls.specs.declared.dup_call.DupCall.{DupCall}
use Rattle.dd_calls.specs.declared.dup_call.DupCall.TheVariants as asked
use Rattle.dd_dup.specs.declared.frame.Frame.{Frame}
use Rattle.dd_dup.specs.Reply.{Memory, acquire_reply, acquire_answer, release_reply, release_answer, buffer_answer, shape_answer, moves_reply, dirty_reply, shape_reply, filled_buffer, held_shape_info, reply}
use Rattle.dd_calls.specs.declared.steps.Step.{Step}
use Rattle.dd_calls.specs.declared.steps.Step.TheVariants as steps
use Rattle.dd_calls.specs.declared.steps.ClientCall.{ClientCall}
use Rattle.dd_calls.specs.declared.steps.ClientCall.TheVariants as calls
use Rattle.dd_station.specs.Run.{State, next, next_number, app_of, memory_of, draw_answer, client_reply, opening_outcome, closing_outcome, call_outcome}
use Rattle.dd_dup.specs.Reply.{slot_of}
use Rattle.dd_calls.specs.Parts.{refusal_in}
use Rattle.dd_trace.specs.Causes.{is_granted}

-- an answer is what the step asks for, or else a refusal
abbrev pub IsGranted : Step → Answer → Type 0
IsGranted t a = is_granted t a ≡ not (is_some (refusal_in a))

granted_drawing : (why : Option LogRefusal) (d : Draw) (number : ℕ)
    → IsGranted (steps.Draw d) (draw_answer why number)
granted_drawing None d number = refl
granted_drawing (Some why) d number = refl

granted_opening : (r : Result ℕ OpenRefusal) (s : State) (k : ℕ)
    → IsGranted (steps.Call k calls.Duplicate) (opening_outcome r s k).0
granted_opening (Ok slot) s k = refl
granted_opening (Err why) s k = refl

granted_closing : (r : Result ℕ CloseRefusal) (s : State) (k : ℕ)
    → IsGranted (steps.Call k calls.Close) (closing_outcome r s k).0
granted_closing (Ok slot) s k = refl
granted_closing (Err why) s k = refl

module _ (k size : ℕ) where
  granted_acquire : (r : Result Frame DupRefusal) → IsGranted (steps.Call k (calls.Acquire size)) (acquire_answer r)
  granted_acquire (Ok f) = refl
  granted_acquire (Err why) = refl

  granted_release : (r : Result (Unit {0}) DupRefusal) → IsGranted (steps.Call k calls.Release) (release_answer r)
  granted_release (Ok x) = refl
  granted_release (Err why) = refl

  granted_moves : (r : Result ℕ DupRefusal) (buffer : List ℕ)
      → IsGranted (steps.Call k (calls.Moves size)) (buffer_answer r buffer)
  granted_moves (Ok n) buffer = refl
  granted_moves (Err why) buffer = refl

  granted_dirty : (r : Result ℕ DupRefusal) (buffer : List ℕ)
      → IsGranted (steps.Call k (calls.Dirty size)) (buffer_answer r buffer)
  granted_dirty (Ok n) buffer = refl
  granted_dirty (Err why) buffer = refl

  granted_shape : (shape : Option ShapeInfo) (r : Result ℕ DupRefusal) (buffer : List ℕ)
      → IsGranted (steps.Call k (calls.Shape size)) (shape_answer shape r buffer)
  granted_shape shape (Ok n) buffer = refl
  granted_shape shape (Err why) buffer = refl

-- each call of a client that may have no duplicator
granted_asking : (o : Option Memory) (h : History) (k : ℕ) (ask : DupCall) (call : ClientCall)
    → IsGranted (steps.Call k call) (client_reply ask None h).0
    → ((m : Memory) → IsGranted (steps.Call k call) (reply ask m h).0)
    → IsGranted (steps.Call k call) (client_reply ask o h).0
granted_asking None h k ask call none some = none
granted_asking (Some m) h k ask call none some = some m

granted_call : (s : State) (k : ℕ) (call : ClientCall) → IsGranted (steps.Call k call) (call_outcome s k call).0
granted_call s k calls.Duplicate = granted_opening (opening s.history (app_of s k)) s k
granted_call s k calls.Close = granted_closing (closing s.history (slot_of (memory_of s k) s.history)) s k
granted_call s k (calls.Acquire timeout) =
    granted_asking (memory_of s k) s.history k asked.Acquire (calls.Acquire timeout) refl
    (λ m. granted_acquire k timeout (acquire_reply m s.history))
granted_call s k calls.Release =
    granted_asking (memory_of s k) s.history k asked.Release calls.Release refl
    (λ m. granted_release k 0 (release_reply m s.history))
granted_call s k (calls.Moves size) =
    granted_asking (memory_of s k) s.history k (asked.Moves size) (calls.Moves size) refl
    (λ m. granted_moves k size (moves_reply m s.history (filled_buffer size)).0
    (moves_reply m s.history (filled_buffer size)).1)
granted_call s k (calls.Dirty size) =
    granted_asking (memory_of s k) s.history k (asked.Dirty size) (calls.Dirty size) refl
    (λ m. granted_dirty k size (dirty_reply m s.history (filled_buffer size)).0
    (dirty_reply m s.history (filled_buffer size)).1)
granted_call s k (calls.Shape size) =
    granted_asking (memory_of s k) s.history k (asked.Shape size) (calls.Shape size) refl
    (λ m. granted_shape k size (held_shape_info m.held) (shape_reply m s.history (filled_buffer size)).0
    (shape_reply m s.history (filled_buffer size)).1)
granted_call s k calls.Surface =
    granted_asking (memory_of s k) s.history k asked.Surface calls.Surface refl (λ m. refl)
granted_call s k calls.Desc =
    granted_asking (memory_of s k) s.history k asked.Desc calls.Desc refl (λ m. refl)

pub next_granted : (s : State) (t : Step) → IsGranted t (next s t).0
unfolding next
next_granted s (steps.Draw d) = granted_drawing (allowed s.history d) d (next_number s)
next_granted s (steps.Call k call) = granted_call s k call
