-- When a call of a seat is done on the locked list, and what is told where memory was wanting.
use Rattle.std.specs.Prelude.{◌≡◌, ℕ, ◌<◌, List, slice_get, Option, Some, None, unwrap_or, IsTrue}
use mathlib.Core.List.{IsPrefix}
use Rattle.dd_log.specs.declared.events.Entry.{Entry}
use Rattle.dd_log.specs.declared.events.Spec.{Spec}
use Rattle.dd_log.specs.History.{History, desk, legal, last_step}
use Rattle.dd_board.specs.Lists.{listed, all_seated}
use Rattle.dd_board.specs.Seats.{Seated}
use Rattle.dd_board.specs.declared.painter.Attempt.{Attempt}
use Rattle.dd_board.specs.declared.painter.Attempt.TheVariants.{Done, Unfit, NoMemory}

-- a list begins with what a seat saw, and a step is past the last one that the seat has there
abbrev pub Fits : List Entry → Seated → ℕ → Type 0
Fits es s step = IsPrefix s.view es × (last_step es s.number < step)

-- a slot, where there is one, is open for an application
abbrev pub HasSlot : History → Option ℕ → ℕ → Type 0
HasSlot h None app = Unit {0}
HasSlot h (Some slot) app = unwrap_or (slice_get (desk h).slots slot) None ≡ Some app

-- A list of the board that fits the seat and the step, and on which something is granted: it is legal, and each of its
-- entries names a seat.
pub record MayGrant (spec : Spec) (seats : ℕ) (s : Seated) (step : ℕ) (IsGranted : History → Type 0) : Type 0 where
  pub entries : List Entry
  pub legal : IsTrue (legal (listed spec entries))
  pub seated : IsTrue (all_seated seats entries)
  pub fits : Fits entries s step
  pub granted : IsGranted (listed spec entries)

-- what holds where the locked list didn't fit
abbrev pub OnUnfit : {A : Type 0} → Attempt A → Type 0 → Type 0
OnUnfit (Done place answer) holds = Unit {0}
OnUnfit Unfit holds = holds
OnUnfit NoMemory holds = Unit {0}

-- and where memory was wanting
abbrev pub OnWant : {A : Type 0} → Attempt A → Type 0 → Type 0
OnWant (Done place answer) holds = Unit {0}
OnWant Unfit holds = Unit {0}
OnWant NoMemory holds = holds
