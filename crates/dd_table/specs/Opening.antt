-- The answers to an opening and to a closing.
use Rattle.std.specs.Prelude.{◌≡◌, ℕ, Bool, true, not, ◌==◌, ◌&&◌, ◌||◌, Option, Some, None, is_some, is_none, Result, Ok, Err, position, if◌then◌else◌}
use Rattle.std.specs.List.{list_any}
use Rattle.dd_calls.specs.declared.answers.OpenRefusal.{OpenRefusal}
use Rattle.dd_calls.specs.declared.answers.OpenRefusal.TheVariants.{SessionDisconnected, AccessDenied, AlreadyDuplicating, NotAvailable, Full}
use Rattle.dd_calls.specs.declared.answers.CloseRefusal.{CloseRefusal}
use Rattle.dd_calls.specs.declared.answers.CloseRefusal.TheVariants.{NoDuplicator, Ended}
use Rattle.dd_calls.specs.declared.answers.CloseRefusal.TheVariants as closings
use Rattle.dd_log.specs.declared.events.Event.TheVariants.{Opened, Closed}
use Rattle.dd_log.specs.Desk.{is_app, finds_slot}
use Rattle.dd_log.specs.History.{History, desk, is_full, refusal}

-- nobody may duplicate the output: the session is disconnected, or the list has ended
abbrev pub is_away : History → Bool
is_away h = not (desk h).connected || (desk h).ended

-- the desktop is secure, and the application isn't privileged
abbrev pub is_denied : History → ℕ → Bool
is_denied h app = (desk h).secure && not (list_any (λ other. other == app) h.spec.privileged)

-- a slot is open for the application
abbrev pub is_duplicating : History → ℕ → Bool
is_duplicating h app = is_some (position (is_app app) (desk h).slots)

-- the least free slot, unless four are open or the list is full
abbrev pub least_free : Option ℕ → History → Result ℕ OpenRefusal
least_free None h = Err NotAvailable
least_free (Some slot) h = if is_full h then Err Full else Ok slot

-- the first cause that stands, or the least free slot
abbrev pub opening : History → ℕ → Result ℕ OpenRefusal
opening h app =
    if is_away h then Err SessionDisconnected
    else (if is_denied h app then Err AccessDenied
    else (if is_duplicating h app then Err AlreadyDuplicating else least_free (position is_none (desk h).slots) h))

-- of the slot that a client's duplicator has, where it has one: the first cause that stands, or the slot
abbrev pub closing : History → Option ℕ → Result ℕ CloseRefusal
closing h None = Err NoDuplicator
closing h (Some slot) = if (desk h).ended then Err Ended else (if is_full h then Err closings.Full else Ok slot)

-- a granted opening finds its slot, and no cause refuses its entry
abbrev pub OpeningsFit : Type 0
OpeningsFit =
    (h : History) (app slot : ℕ) → opening h app ≡ Ok slot
    → (finds_slot (desk h).slots (Opened slot app) ≡ true) × (refusal h (Opened slot app) ≡ None)

-- no cause refuses the entry of a granted closing
abbrev pub ClosingsFit : Type 0
ClosingsFit =
    (h : History) (o : Option ℕ) (slot : ℕ) → closing h o ≡ Ok slot
    → (o ≡ Some slot) × (refusal h (Closed slot) ≡ None)
