-- What the publishing of an entry leaves. No public clause names it.
use Rattle.std.specs.Prelude.{◌≡◌, ◌≤◌, ◌<◌, ℕ, List, [], ◌∷◌, ◌++◌, Option, Some, None}
use Rattle.dd_log.specs.History.{before_end}
use Rattle.dd_board.specs.Ending.{HasEnded}
use Rattle.dd_log.specs.declared.events.Entry.{Entry}
use Rattle.dd_board.specs.declared.press.Printed.{Printed}
use Rattle.dd_board.specs.declared.press.Printed.TheVariants.{Made, NoMemory}

-- the entry is the last of what is published, and that list is told; or nothing changed
abbrev pub IsPrinted : {L : Type 0} → Printed L → List Entry → List Entry → Entry → Type 0
IsPrinted (Made told) old new e = (new ≡ old ++ e ∷ []) × (told ≡ new)
IsPrinted NoMemory old new e = new ≡ old

-- A list that has ended, with at least so many entries before its end; none only where the locked list has fewer.
abbrev pub IsEnding : {L : Type 0} → Option (Printed L) → ℕ → ℕ → List Entry → Type 0
IsEnding None seats at_least old = before_end old < at_least
IsEnding (Some (Made told)) seats at_least old = (at_least ≤ before_end told) × HasEnded seats told
IsEnding (Some NoMemory) seats at_least old = Unit {0}
