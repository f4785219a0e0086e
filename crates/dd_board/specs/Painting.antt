-- What is done to the locked list for a seat. No public clause names it.
use Rattle.std.specs.Prelude.{◌≡◌, ℕ, List, [], ◌∷◌, ◌++◌, take, Result, Ok, Err}
use Rattle.std.specs.declared.alloc.AllocError.{AllocError}
use Rattle.dd_log.specs.declared.events.Spec.{Spec}
use Rattle.dd_log.specs.declared.events.Entry.{Entry}
use Rattle.dd_log.specs.declared.refusal.LogRefusal.{LogRefusal}
use Rattle.dd_log.specs.History.{refusal, verdict}
use Rattle.dd_board.specs.Lists.{listed}
use Rattle.dd_board.specs.Seats.{Seated, entering, entry_if, IsCall}
use Rattle.dd_board.specs.declared.painter.Entering.{Entering}
use Rattle.dd_board.specs.declared.painter.Entering.TheVariants as enterings
use Rattle.dd_board.specs.declared.painter.Attempt.{Attempt}
use Rattle.dd_board.specs.declared.painter.Attempt.TheVariants.{Done, Unfit, NoMemory}

-- an entry of a seat is the list's last, and the seat has seen it; or nothing changed
abbrev pub IsEntering : Entering → List Entry → List Entry → Seated → Seated → Entry → Type 0
IsEntering enterings.Made old new s t e = (new ≡ old ++ e ∷ []) × (t ≡ entering s new)
IsEntering enterings.NoMemory old new s t e = (new ≡ old) × (t ≡ s)

-- a drawing is answered by the list at its place; or the seat is as it was
abbrev pub IsDrawing : Attempt (Result (Unit {0}) LogRefusal) → Spec → Seated → Seated → Entry → Type 0
IsDrawing (Done place answer) spec old new e =
    IsCall old new place (entry_if answer e)
    × (answer ≡ verdict (refusal (listed spec (take place new.view)) e.event))
IsDrawing Unfit spec old new e = new ≡ old
IsDrawing NoMemory spec old new e = new ≡ old

-- the same of a drawing that waited until the list fitted its actor
abbrev pub IsDrawn : Result (ℕ × Result (Unit {0}) LogRefusal) AllocError → Spec → Seated → Seated → Entry → Type 0
IsDrawn (Ok p) spec old new e = IsDrawing (Done p.0 p.1) spec old new e
IsDrawn (Err error) spec old new e = new ≡ old

-- how a call went whose entry went so
abbrev pub attempt_of : {A : Type 0} → Entering → ℕ → A → Attempt A
attempt_of enterings.Made place answer = Done place answer
attempt_of enterings.NoMemory place answer = NoMemory
