-- What happened in a run, step by step, and what can be told by looking back over it.
use Rattle.std.specs.Prelude.{◌≡◌, ℕ, Bool, true, false, ◌&&◌, ◌||◌, if◌then◌else◌, List, [], ◌∷◌, length, map, fold, Option, Some, None, option_map, option_and_then, drop}
use Rattle.dd_calls.specs.declared.answers.Answer.{Answer}
use Rattle.dd_calls.specs.declared.answers.Answer.TheVariants.{Opened, Closed, Released, Refused}
use Rattle.dd_calls.specs.declared.answers.DupRefusal.TheVariants.{AccessLost}
use Rattle.dd_pointer.specs.Shape.{PointerShape}
use Rattle.dd_log.specs.History.{History, desk, last_shape}
use Rattle.dd_dup.specs.Reply.{Memory}
use Rattle.dd_calls.specs.declared.steps.Script.{Script}
use Rattle.dd_calls.specs.declared.steps.Step.{Step}
use Rattle.dd_calls.specs.declared.steps.Step.TheVariants as steps
use Rattle.dd_station.specs.Run.{State, start, next, after, run, memory_of}
use Rattle.dd_trace.specs.Independence.{is_of}
use Rattle.dd_calls.specs.Parts.{is_frame}

-- One step: the list before it, the memory of the client that calls, where it has a duplicator, the step, and its
-- answer.
pub record Moment : Type 0 where
  pub list : History
  pub memory : Option Memory
  pub step : Step
  pub answer : Answer

-- the memory of the client that calls; nobody calls where something is drawn
abbrev pub caller_memory : State → Step → Option Memory
caller_memory s (steps.Draw d) = None
caller_memory s (steps.Call k call) = memory_of s k

abbrev pub moment_of : State → Step → Moment
moment_of s t = record { list = s.history; memory = caller_memory s t; step = t; answer = (next s t).0 }

-- the moments of steps from a state on
abbrev pub moments : State → List Step → List Moment
moments s [] = []
moments s (t ∷ ts) = moment_of s t ∷ moments (next s t).1 ts

-- the trace of a script: its moments, from the empty list on
unfoldable pub trace : Script → List Moment
trace script = moments (start script.spec script.clients) script.steps

-- the one list: all that was entered
unfoldable pub whole_list : Script → History
whole_list script = (after (start script.spec script.clients) script.steps).history

abbrev pub answers_of : List Moment → List Answer
answers_of ms = map (λ m. m.answer) ms

-- the answers in the trace of a script are those of its run
abbrev pub TraceIsTheRun : Type 0
TraceIsTheRun = (script : Script) → answers_of (trace script) ≡ run script

-- the client that calls; 0 where something is drawn
abbrev pub caller : Step → ℕ
caller (steps.Draw d) = 0
caller (steps.Call k call) = k

-- ---- kinds of answers

abbrev pub is_opened : Answer → Bool
is_opened (Opened entry slot) = true
is_opened _ = false

abbrev pub is_closed : Answer → Bool
is_closed (Closed entry) = true
is_closed _ = false

-- the frame goes: it is released, or the duplicator is told that it is lost
abbrev pub lets_go : Answer → Bool
lets_go Released = true
lets_go (Refused AccessLost buffer) = true
lets_go _ = false

-- ---- looking back over the moments before a step

-- the last moment of a client whose answer is of some kind
abbrev pub last_of : ℕ → (Answer → Bool) → List Moment → Option Moment
last_of k kind ms = fold (λ found m. if is_of k m.step && kind m.answer then Some m else found) None ms

-- a moment, where its answer is of some kind
abbrev pub where_is : (Answer → Bool) → Option Moment → Option Moment
where_is kind None = None
where_is kind (Some m) = if kind m.answer then Some m else None

-- the opening of the duplicator that a client has
abbrev pub opening_of : ℕ → List Moment → Option Moment
opening_of k ms = where_is is_opened (last_of k (λ a. is_opened a || is_closed a) ms)

-- the place of a step: how many entries the list had before it
abbrev pub place_of : Moment → ℕ
place_of m = length m.list.entries

-- how far a frame or an opening has seen: a frame all of its list, an opening up to where the picture began
abbrev pub picture_seen_at : Moment → ℕ
picture_seen_at m = if is_frame m.answer then place_of m else (desk m.list).picture_start

-- and how far it has seen the pointer: an opening nothing of it
abbrev pub pointer_seen_at : Moment → ℕ
pointer_seen_at m = if is_frame m.answer then place_of m else 0

-- how far a client's duplicator has seen: at its last frame, or else at its opening
abbrev pub picture_seen : ℕ → List Moment → Option ℕ
picture_seen k ms = option_map picture_seen_at (last_of k (λ a. is_opened a || is_frame a) ms)

abbrev pub pointer_seen : ℕ → List Moment → Option ℕ
pointer_seen k ms = option_map pointer_seen_at (last_of k (λ a. is_opened a || is_frame a) ms)

-- the moment at which a client was told the frame that it holds, where it holds one
abbrev pub held_since : ℕ → List Moment → Option Moment
held_since k ms = where_is is_frame (last_of k (λ a. is_opened a || is_frame a || lets_go a || is_closed a) ms)

-- that frame, as it was told
abbrev pub frame_held : ℕ → List Moment → Option Answer
frame_held k ms = option_map (λ m. m.answer) (held_since k ms)

-- the last shape that a list's entries give the pointer behind what a duplicator had seen of it
abbrev pub shape_behind : Option Memory → History → Option PointerShape
shape_behind None h = None
shape_behind (Some d) h = last_shape (drop d.pointer_mark h.entries)

-- the new shape of the frame that a client holds: the last one behind what its duplicator had seen of the pointer until
-- then
abbrev pub shape_held : ℕ → List Moment → Option PointerShape
shape_held k ms = option_and_then (λ m. shape_behind m.memory m.list) (held_since k ms)
