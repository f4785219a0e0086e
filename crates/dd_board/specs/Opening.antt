-- What is opened and closed on the locked list. No public clause names it.
use Rattle.std.specs.Prelude.{◌≡◌, ℕ, take, Option, Some, None, option_map, Result, Ok, Err}
use Rattle.std.specs.declared.alloc.AllocError.{AllocError}
use Rattle.dd_calls.specs.declared.answers.Answer.{Answer}
use Rattle.dd_calls.specs.declared.answers.Answer.TheVariants.{Opened, NotOpened, Closed, NotClosed}
use Rattle.dd_log.specs.declared.events.Spec.{Spec}
use Rattle.dd_calls.specs.declared.answers.OpenRefusal.{OpenRefusal}
use Rattle.dd_calls.specs.declared.answers.CloseRefusal.{CloseRefusal}
use Rattle.dd_log.specs.History.{History}
use Rattle.dd_table.specs.Opening.{opening, closing}
use Rattle.dd_dup.specs.Reply.{fresh_memory}
use Rattle.dd_board.specs.Lists.{listed}
use Rattle.dd_board.specs.Seats.{Seated, IsCall}
use Rattle.dd_board.specs.Holding.{MayHold}
use Rattle.dd_board.specs.Openings.{opening_entry, closing_entry}
use Rattle.dd_board.specs.declared.holding.Holding.{Holding}
use Rattle.dd_board.specs.declared.painter.Attempt.{Attempt}
use Rattle.dd_board.specs.declared.painter.Attempt.TheVariants.{Done, Unfit, NoMemory}

-- the slot of what was opened
abbrev pub slot_in : Result Holding OpenRefusal → Result ℕ OpenRefusal
slot_in (Ok x) = Ok x.slot
slot_in (Err cause) = Err cause

-- what was opened is fresh on one list, and stands on another
abbrev pub IsFresh : Result Holding OpenRefusal → History → ℕ → History → Type 0
IsFresh (Ok x) before place h = (x.dup.memory ≡ fresh_memory before place) × MayHold (Some x) h
IsFresh (Err cause) before place h = Unit {0}

-- an opening is answered by the list at its place; or the seat is as it was
abbrev pub IsOpening : Attempt (Result Holding OpenRefusal) → Spec → Seated → Seated → ℕ → ℕ → Type 0
IsOpening (Done place answer) spec old new app step =
    (slot_in answer ≡ opening (listed spec (take place new.view)) app)
    × IsCall old new place (opening_entry (slot_in answer) old.number step app)
    × IsFresh answer (listed spec (take place new.view)) place (listed spec new.view)
IsOpening Unfit spec old new app step = new ≡ old
IsOpening NoMemory spec old new app step = new ≡ old

-- and so is a closing of a slot, where there is one
abbrev pub IsClosing : Attempt (Result ℕ CloseRefusal) → Spec → Seated → Seated → Option ℕ → ℕ → Type 0
IsClosing (Done place answer) spec old new slot step =
    (answer ≡ closing (listed spec (take place new.view)) slot)
    × IsCall old new place (closing_entry answer old.number step)
IsClosing Unfit spec old new slot step = new ≡ old
IsClosing NoMemory spec old new slot step = new ≡ old

-- the same, once the list fitted the seat
abbrev pub IsOpened : Result (ℕ × Result Holding OpenRefusal) AllocError → Spec → Seated → Seated → ℕ → ℕ → Type 0
IsOpened (Ok p) spec old new app step = IsOpening (Done p.0 p.1) spec old new app step
IsOpened (Err error) spec old new app step = new ≡ old

abbrev pub IsClosed : Result (ℕ × Result ℕ CloseRefusal) AllocError → Spec → Seated → Seated → Option ℕ → ℕ → Type 0
IsClosed (Ok p) spec old new slot step = IsClosing (Done p.0 p.1) spec old new slot step
IsClosed (Err error) spec old new slot step = new ≡ old

-- what a client is answered that opened something as an entry of this number, and what it holds then
abbrev pub opened_answer : Result Holding OpenRefusal → ℕ → Answer
opened_answer (Ok x) number = Opened number x.slot
opened_answer (Err cause) number = NotOpened cause

abbrev pub held_after : Result Holding OpenRefusal → Option Holding → Option Holding
held_after (Ok x) old = Some x
held_after (Err cause) old = old

-- and one that closed it
abbrev pub closed_answer : Result ℕ CloseRefusal → ℕ → Answer
closed_answer (Ok slot) number = Closed number
closed_answer (Err cause) number = NotClosed cause

abbrev pub held_closed : Result ℕ CloseRefusal → Option Holding → Option Holding
held_closed (Ok slot) old = None
held_closed (Err cause) old = old

-- the slot that is held
abbrev pub held_slot : Option Holding → Option ℕ
held_slot o = option_map (λ x. x.slot) o
