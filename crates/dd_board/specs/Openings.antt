-- What an opening and a closing answer and leave, by the list at their place.
use Rattle.std.specs.Prelude.{ℕ, ◌+◌, Option, Some, None, Result, Ok, Err}
use Rattle.dd_log.specs.declared.events.Entry.{Entry}
use Rattle.dd_log.specs.declared.events.Event.TheVariants as events
use Rattle.dd_calls.specs.declared.answers.Answer.{Answer}
use Rattle.dd_calls.specs.declared.answers.Answer.TheVariants.{Opened, NotOpened, Closed, NotClosed}
use Rattle.dd_calls.specs.declared.answers.OpenRefusal.{OpenRefusal}
use Rattle.dd_calls.specs.declared.answers.CloseRefusal.{CloseRefusal}
use Rattle.dd_log.specs.History.{History}
use Rattle.dd_dup.specs.Reply.{Memory, fresh_memory}
use Rattle.dd_dup.specs.Duplicator.{Duplicator}

-- the entry of an opening that is granted
abbrev pub opening_entry : Result ℕ OpenRefusal → ℕ → ℕ → ℕ → Option Entry
opening_entry (Ok slot) actor step app = Some (record { actor = actor; step = step; event = events.Opened slot app })
opening_entry (Err cause) actor step app = None

-- its answer, at a place
abbrev pub opening_answer : Result ℕ OpenRefusal → ℕ → Answer
opening_answer (Ok slot) place = Opened (place + 1) slot
opening_answer (Err cause) place = NotOpened cause

-- the memory of the client's duplicator then: fresh, or as it was
abbrev pub opening_memory : Result ℕ OpenRefusal → Option Memory → History → ℕ → Option Memory
opening_memory (Ok slot) old h place = Some (fresh_memory h place)
opening_memory (Err cause) old h place = old

-- the entry of a closing that is granted
abbrev pub closing_entry : Result ℕ CloseRefusal → ℕ → ℕ → Option Entry
closing_entry (Ok slot) actor step = Some (record { actor = actor; step = step; event = events.Closed slot })
closing_entry (Err cause) actor step = None

abbrev pub closing_answer : Result ℕ CloseRefusal → ℕ → Answer
closing_answer (Ok slot) place = Closed (place + 1)
closing_answer (Err cause) place = NotClosed cause

-- the client's duplicator then: none, or as it was
abbrev pub closing_dup : Result ℕ CloseRefusal → Option Duplicator → Option Duplicator
closing_dup (Ok slot) old = None
closing_dup (Err cause) old = old
