-- The run of a list of steps: a fold from the empty list and no memories.
use Rattle.std.specs.Prelude.{ℕ, ◌+◌, ◌-◌, ◌≤◌, Bool, true, false, is_ok, List, [], ◌∷◌, length, replicate, slice_index_or, slice_set, slice_index, Option, Some, None, Result, Ok, Err}
use Rattle.dd_log.specs.declared.events.Spec.{Spec}
use Rattle.dd_log.specs.declared.events.Entry.{Entry}
use Rattle.dd_log.specs.declared.events.Event.{Event}
use Rattle.dd_log.specs.declared.events.Event.TheVariants as events
use Rattle.dd_log.specs.declared.events.Draw as draws
use Rattle.dd_calls.specs.declared.answers.Answer.{Answer}
use Rattle.dd_calls.specs.declared.answers.Answer.TheVariants.{Entered, NotDrawn, Opened, NotOpened, Closed, NotClosed, NoDuplicator}
use Rattle.dd_log.specs.declared.refusal.LogRefusal.{LogRefusal}
use Rattle.dd_calls.specs.declared.answers.OpenRefusal.{OpenRefusal}
use Rattle.dd_calls.specs.declared.answers.CloseRefusal.{CloseRefusal}
use Rattle.dd_log.specs.History.{History, begun, with_entry, allowed}
use Rattle.dd_table.specs.Opening.{opening, closing}
use Rattle.dd_calls.specs.declared.dup_call.DupCall.{DupCall}
use Rattle.dd_dup.specs.Reply.{Memory, fresh_memory, slot_of, reply, call_takes_memory}
use Rattle.dd_calls.specs.Calls.{asked}
use Rattle.dd_calls.specs.declared.steps.Script.{Script}
use Rattle.dd_calls.specs.declared.steps.Step.{Step}
use Rattle.dd_calls.specs.declared.steps.Step.TheVariants as steps
use Rattle.dd_calls.specs.declared.steps.ClientCall.{ClientCall}
use Rattle.dd_calls.specs.declared.steps.ClientCall.TheVariants as calls

-- the list so far, the clients' applications, each client's memory where it has a duplicator, and the steps so far
pub record State : Type 0 where
  pub history : History
  pub clients : List ℕ
  pub memories : List (Option Memory)
  pub steps : ℕ

abbrev pub start : Spec → List ℕ → State
start spec clients =
    record { history = begun spec; clients = clients; memories = replicate (length clients) None; steps = 0 }

-- one step more, with this list
abbrev pub one_step_on : State → History → State
one_step_on s h = record s { history = h; steps = s.steps + 1 }

-- client k, numbered from 1, has this memory
abbrev pub with_memory : State → ℕ → Option Memory → State
with_memory s k m = record s { memories = slice_set s.memories (k - 1) m }

abbrev pub app_of : State → ℕ → ℕ
app_of s k = slice_index s.clients (k - 1)

abbrev pub memory_of : State → ℕ → Option Memory
memory_of s k = slice_index_or s.memories (k - 1) None

-- the entry of an actor's next step, and its event number
abbrev pub entry_of : State → ℕ → Event → Entry
entry_of s actor event = record { actor = actor; step = s.steps + 1; event = event }

abbrev pub next_number : State → ℕ
next_number s = length s.history.entries + 1

-- a drawing is entered, or is refused
abbrev pub draw_answer : Option LogRefusal → ℕ → Answer
draw_answer None number = Entered number
draw_answer (Some cause) number = NotDrawn cause

abbrev pub draw_history : Option LogRefusal → History → Entry → History
draw_history None h e = with_entry h e
draw_history (Some cause) h e = h

abbrev pub draw_outcome : State → draws.Draw → Answer × State
draw_outcome s d = (
  draw_answer (allowed s.history d) (next_number s),
  one_step_on s (draw_history (allowed s.history d) s.history (entry_of s 0 (events.Draw d))),
)

-- an opening is the next entry, and the client's memory is fresh; or it is refused
abbrev pub opening_outcome : Result ℕ OpenRefusal → State → ℕ → Answer × State
opening_outcome (Ok slot) s k = (
  Opened (next_number s) slot,
  with_memory (one_step_on s (with_entry s.history (entry_of s k (events.Opened slot (app_of s k))))) k
      (Some (fresh_memory s.history (length s.history.entries))),
)
opening_outcome (Err cause) s k = (NotOpened cause, one_step_on s s.history)

-- a closing is the next entry, and the client has no memory then; or it is refused
abbrev pub closing_outcome : Result ℕ CloseRefusal → State → ℕ → Answer × State
closing_outcome (Ok slot) s k = (
  Closed (next_number s),
  with_memory (one_step_on s (with_entry s.history (entry_of s k (events.Closed slot)))) k None,
)
closing_outcome (Err cause) s k = (NotClosed cause, one_step_on s s.history)

-- what a client is answered that may have no duplicator, and its memory then
abbrev pub client_reply : DupCall → Option Memory → History → Answer × Option Memory
client_reply call None h = (NoDuplicator, None)
client_reply call (Some m) h = ((reply call m h).0, Some (reply call m h).1)

abbrev pub reply_outcome : State → ℕ → Answer × Option Memory → Answer × State
reply_outcome s k r = (r.0, with_memory (one_step_on s s.history) k r.1)

abbrev pub asking_outcome : State → ℕ → DupCall → Answer × State
asking_outcome s k call = reply_outcome s k (client_reply call (memory_of s k) s.history)

-- a client asks its duplicator something, closes it, or opens one
abbrev pub client_outcome : State → ℕ → Option DupCall → ClientCall → Answer × State
client_outcome s k (Some ask) call = asking_outcome s k ask
client_outcome s k None calls.Close = closing_outcome (closing s.history (slot_of (memory_of s k) s.history)) s k
client_outcome s k None call = opening_outcome (opening s.history (app_of s k)) s k

abbrev pub call_outcome : State → ℕ → ClientCall → Answer × State
call_outcome s k call = client_outcome s k (asked call) call

-- the answer to the next step, and the state then
unfoldable pub next : State → Step → Answer × State
next s (steps.Draw d) = draw_outcome s d
next s (steps.Call k call) = call_outcome s k call

-- whether memory is taken for what a client asks: none where it has no duplicator
abbrev pub asking_takes_memory : DupCall → Option Memory → History → Bool
asking_takes_memory call None h = false
asking_takes_memory call (Some m) h = call_takes_memory call m h

abbrev pub asks_memory : State → ℕ → DupCall → Bool
asks_memory s k call = asking_takes_memory call (memory_of s k) s.history

-- or for what a client calls: an opening that is granted takes some, a closing none
abbrev pub takes_memory_for : State → ℕ → Option DupCall → ClientCall → Bool
takes_memory_for s k (Some ask) call = asks_memory s k ask
takes_memory_for s k None calls.Close = false
takes_memory_for s k None call = is_ok (opening s.history (app_of s k))

abbrev pub client_takes_memory : State → ℕ → ClientCall → Bool
client_takes_memory s k call = takes_memory_for s k (asked call) call

-- whether memory is taken for a step: for each drawing, for an opening and a frame that are granted, for rows and for
-- each buffer; never for a closing or a release
unfoldable pub step_takes_memory : State → Step → Bool
step_takes_memory s (steps.Draw d) = true
step_takes_memory s (steps.Call k call) = client_takes_memory s k call

-- the answers to steps in order
abbrev pub answers : State → List Step → List Answer
answers s [] = []
answers s (t ∷ ts) = (next s t).0 ∷ answers (next s t).1 ts

-- and the state after them
abbrev pub after : State → List Step → State
after s [] = s
after s (t ∷ ts) = after (next s t).1 ts

-- the answers of a script
unfoldable pub run : Script → List Answer
run script = answers (start script.spec script.clients) script.steps
