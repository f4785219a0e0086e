-- Each step is refused by the first cause that stands.
use Rattle.std.proofs.Common.{◌≡◌, ℕ, ◌-◌, Bool, true, false, ◌&&◌, ◌||◌, not, if◌then◌else◌, nat_lt, List, [], ◌∷◌, ◌++◌, length, drop, Option, Some, None, Result, Ok, Err, refl, sym, ap, ◌∙◌, subst}
use Rattle.std.specs.Prelude.{nat_le, is_some, slice_index}
use Rattle.std.proofs.lemmas.List.{length-replicate}
use Rattle.dd_pointer.specs.declared.shape.ShapeInfo.{ShapeInfo}
use Rattle.dd_calls.specs.declared.answers.Answer.{Answer}
use Rattle.dd_calls.specs.declared.answers.Answer.TheVariants.{Refused}
use Rattle.dd_calls.specs.declared.answers.DupRefusal.{DupRefusal}
use Rattle.dd_calls.specs.declared.answers.DupRefusal.TheVariants.{AccessLost, InvalidCall, WaitTimeout, MoreData}
use Rattle.dd_log.specs.History.{History, any_presents, any_points}
use Rattle.dd_meta.specs.Buffer.{bytes_of_moves, bytes_of_rects}
use Rattle.dd_dup.specs.declared.calls.TheConstants.{FILL}
use Rattle.dd_calls.specs.declared.dup_call.DupCall.{DupCall}
use Rattle.dd_calls.specs.declared.dup_call.DupCall.TheVariants as asked
use Rattle.dd_dup.specs.declared.frame.Frame.{Frame}
use Rattle.dd_dup.specs.News.{frame, news, held_moves, held_dirt, held_shape, shape_bytes}
use Rattle.dd_dup.specs.Reply.{Memory, is_lost, acquire_answer, release_answer, buffer_answer, shape_answer, in_buffer, as_reply, unless_refused, filled_buffer, held_shape_info, reply}
use Rattle.dd_calls.specs.declared.steps.Step.{Step}
use Rattle.dd_calls.specs.declared.steps.Step.TheVariants as steps
use Rattle.dd_calls.specs.declared.steps.ClientCall.{ClientCall}
use Rattle.dd_calls.specs.declared.steps.ClientCall.TheVariants as calls
use Rattle.dd_station.specs.Run.{State, next, memory_of, client_reply, call_outcome}
use Rattle.dd_trace.specs.Trace.{caller_memory}
use Rattle.dd_trace.specs.Causes.{Cause, cause, first_of, is_cut_off, asking_causes, buffer_causes, acquire_causes, release_causes, duplicator_causes, call_causes, step_causes}
use Rattle.dd_calls.specs.Parts.{refusal_in}
use Rattle.dd_trace.proofs.Running.{IsRun, StandsFor, stands_for}
use Rattle.dd_trace.proofs.Finding.{less-not}
use Rattle.dd_trace.proofs.RefusingLists.{draw_refused, open_refused, close_refused}

-- ---- a loss

-- a duplicator was told that it is lost only where it is cut off
cut_alone : (lost cut : Bool) → (lost ≡ true → cut ≡ true) → (lost || cut) ≡ cut
cut_alone true cut lost = sym (lost refl)
cut_alone false cut lost = refl

lost_is : (m : Memory) (h : History) → StandsFor (Some m) h → is_lost m h ≡ is_cut_off m h
lost_is m h stands =
    subst (λ (x : Memory). is_lost x h ≡ is_cut_off x h) stands.1
    (cut_alone stands.0.memory.lost (is_cut_off stands.0.memory h) stands.2.lost)

-- ---- calls of a duplicator

acquire_first : (lost holds presents points : Bool) (f : Frame)
    → refusal_in
    (acquire_answer
    (if lost then Err AccessLost
    else if holds then Err InvalidCall else if presents || points then Ok f else Err WaitTimeout))
    ≡ first_of
    (cause lost (Refused AccessLost None) ∷ cause holds (Refused InvalidCall None)
    ∷ cause (not presents && not points) (Refused WaitTimeout None) ∷ [])
acquire_first true holds presents points f = refl
acquire_first false true presents points f = refl
acquire_first false false true points f = refl
acquire_first false false false true f = refl
acquire_first false false false false f = refl

release_first : (lost holds : Bool)
    → refusal_in (release_answer (if lost then Err AccessLost else if holds then Ok tt else Err InvalidCall))
    ≡ first_of (cause lost (Refused AccessLost None) ∷ cause (not holds) (Refused InvalidCall None) ∷ [])
release_first true holds = refl
release_first false true = refl
release_first false false = refl

-- how a buffer is answered
record AnswersBuffer (answer : Result ℕ DupRefusal → List ℕ → Answer) : Type 0 where
  granted : (size : ℕ) (buffer : List ℕ) → refusal_in (answer (Ok size) buffer) ≡ None
  refused :
      (why : DupRefusal) (buffer : List ℕ) → refusal_in (answer (Err why) buffer) ≡ Some (Refused why (Some buffer))

abbrev sized_causes : Bool → Bool → Bool → ℕ → List ℕ → List Cause
sized_causes lost none short size buffer =
    cause lost (Refused AccessLost (Some buffer)) ∷ cause none (Refused InvalidCall (Some buffer))
    ∷ cause short (Refused (MoreData size) (Some buffer)) ∷ []

put_first : (answer : Result ℕ DupRefusal → List ℕ → Answer) (fits : Bool) (size : ℕ) (filled buffer : List ℕ)
    → AnswersBuffer answer
    → refusal_in (in_buffer answer (as_reply (if fits then (Ok size, filled) else (Err size, buffer))))
    ≡ first_of (cause (not fits) (Refused (MoreData size) (Some buffer)) ∷ [])
put_first answer true size filled buffer a = a.granted size filled
put_first answer false size filled buffer a = a.refused (MoreData size) buffer

buffer_first : (answer : Result ℕ DupRefusal → List ℕ → Answer) (lost holds : Bool) (bytes : List ℕ) (size : ℕ)
    → AnswersBuffer answer
    → refusal_in
    (in_buffer answer
    (unless_refused (if lost then Err AccessLost else if holds then Ok tt else Err InvalidCall) bytes
    (filled_buffer size)))
    ≡ first_of (sized_causes lost (not holds) (nat_lt size (length bytes)) (length bytes) (filled_buffer size))
buffer_first answer true holds bytes size a = a.refused AccessLost (filled_buffer size)
buffer_first answer false false bytes size a = a.refused InvalidCall (filled_buffer size)
buffer_first answer false true bytes size a =
    let buffer = filled_buffer size in
    put_first answer (nat_le (length bytes) (length buffer)) (length bytes) (bytes ++ drop (length bytes) buffer)
    buffer a
    ∙ ap
    (λ (b : Bool). first_of (cause b (Refused (MoreData (length bytes)) (Some buffer)) ∷ []))
    (sym (less-not (length buffer) (length bytes))
    ∙ ap (λ n. nat_lt n (length bytes)) (length-replicate size FILL))

buffer_refused : (answer : Result ℕ DupRefusal → List ℕ → Answer) (m : Memory) (h : History) (bytes : List ℕ)
    (size : ℕ) → AnswersBuffer answer → is_lost m h ≡ is_cut_off m h
    → refusal_in
    (in_buffer answer
    (unless_refused (if is_lost m h then Err AccessLost else if is_some m.held then Ok tt else Err InvalidCall) bytes
    (filled_buffer size)))
    ≡ first_of (buffer_causes h m size bytes)
buffer_refused answer m h bytes size a is =
    buffer_first answer (is_lost m h) (is_some m.held) bytes size a
    ∙ ap
    (λ (b : Bool). first_of
    (sized_causes b (not (is_some m.held)) (nat_lt size (length bytes)) (length bytes) (filled_buffer size)))
    is

plain_buffer : AnswersBuffer buffer_answer
plain_buffer = record { granted = λ size buffer. refl; refused = λ why buffer. refl }

shaped_buffer : (shape : Option ShapeInfo) → AnswersBuffer (shape_answer shape)
shaped_buffer shape = record { granted = λ size buffer. refl; refused = λ why buffer. refl }

acquire_refused : (m : Memory) (h : History) → is_lost m h ≡ is_cut_off m h
    → refusal_in (reply asked.Acquire m h).0 ≡ first_of (acquire_causes h m)
acquire_refused m h is =
    let presents = any_presents (news h m.mark) in
    let points = any_points (news h m.pointer_mark) in
    acquire_first (is_lost m h) (is_some m.held) presents points (frame h m.mark m.pointer_mark)
    ∙ ap
    (λ (b : Bool). first_of
    (cause b (Refused AccessLost None) ∷ cause (is_some m.held) (Refused InvalidCall None)
    ∷ cause (not presents && not points) (Refused WaitTimeout None) ∷ []))
    is

release_refused : (m : Memory) (h : History) → is_lost m h ≡ is_cut_off m h
    → refusal_in (reply asked.Release m h).0 ≡ first_of (release_causes h m)
release_refused m h is =
    release_first (is_lost m h) (is_some m.held)
    ∙ ap
    (λ (b : Bool). first_of
    (cause b (Refused AccessLost None) ∷ cause (not (is_some m.held)) (Refused InvalidCall None) ∷ []))
    is

-- ---- a client's call

-- what is asked by a call, where it is asked of a duplicator
abbrev Asks : ClientCall → DupCall → Type 0
Asks call ask =
    (m : Memory) (h : History) → is_lost m h ≡ is_cut_off m h
    → refusal_in (reply ask m h).0 ≡ first_of (asking_causes h m call)

asks : (call : ClientCall) (ask : DupCall) → Asks call ask → (o : Option Memory) (h : History) → StandsFor o h
    → refusal_in (client_reply ask o h).0 ≡ first_of (duplicator_causes h o call)
asks call ask refused None h stands = refl
asks call ask refused (Some m) h stands = refused m h (lost_is m h stands)

asks_for : (s : State) (k : ℕ) (call : ClientCall) (ask : DupCall) → IsRun s → Asks call ask
    → refusal_in (client_reply ask (memory_of s k) s.history).0
    ≡ first_of (duplicator_causes s.history (memory_of s k) call)
asks_for s k call ask run refused = asks call ask refused (memory_of s k) s.history (stands_for s k run)

call_refused : (s : State) (k : ℕ) (call : ClientCall) → IsRun s
    → refusal_in (call_outcome s k call).0
    ≡ first_of (call_causes s.history (slice_index s.clients (k - 1)) (memory_of s k) call)
call_refused s k calls.Duplicate run = open_refused s k
call_refused s k calls.Close run = close_refused s k run
call_refused s k (calls.Acquire timeout) run = asks_for s k (calls.Acquire timeout) asked.Acquire run acquire_refused
call_refused s k calls.Release run = asks_for s k calls.Release asked.Release run release_refused
call_refused s k (calls.Moves size) run =
    asks_for s k (calls.Moves size) (asked.Moves size) run
    (λ m h is. buffer_refused buffer_answer m h (bytes_of_moves (held_moves m.held)) size plain_buffer is)
call_refused s k (calls.Dirty size) run =
    asks_for s k (calls.Dirty size) (asked.Dirty size) run
    (λ m h is. buffer_refused buffer_answer m h (bytes_of_rects (held_dirt m.held)) size plain_buffer is)
call_refused s k (calls.Shape size) run =
    asks_for s k (calls.Shape size) (asked.Shape size) run
    (λ m h is. buffer_refused (shape_answer (held_shape_info m.held)) m h (shape_bytes (held_shape m.held)) size
    (shaped_buffer (held_shape_info m.held)) is)
call_refused s k calls.Surface run = asks_for s k calls.Surface asked.Surface run (λ m h is. refl)
call_refused s k calls.Desc run = asks_for s k calls.Desc asked.Desc run (λ m h is. refl)

pub next_refused : (s : State) (t : Step) → IsRun s
    → refusal_in (next s t).0 ≡ first_of (step_causes s.clients s.history (caller_memory s t) t)
unfolding next
next_refused s (steps.Draw d) run = draw_refused s d
next_refused s (steps.Call k call) run = call_refused s k call run
