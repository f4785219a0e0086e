-- Lists that have ended.
use Rattle.std.specs.Prelude.{◌≡◌, ℕ, List, [], ◌∷◌, ◌++◌, take}
use Rattle.dd_log.specs.declared.events.Entry.{Entry}
use Rattle.dd_log.specs.History.{before_end, end_of}

-- its last entry is the end, of the actor after some seats, and of step 1
abbrev pub HasEnded : ℕ → List Entry → Type 0
HasEnded seats es = es ≡ take (before_end es) es ++ end_of seats 1 ∷ []
