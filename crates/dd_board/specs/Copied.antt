-- What a copy of the locked list is. No public clause names it.
use Rattle.std.specs.Prelude.{◌≡◌, ℕ, List}
use mathlib.Core.List.{IsPrefix}
use Rattle.dd_log.specs.declared.events.Spec.{Spec}
use Rattle.dd_log.specs.declared.events.Entry.{Entry}
use Rattle.dd_log.specs.History.{before_end}
use Rattle.dd_board.specs.Lists.{listed}
use Rattle.dd_board.specs.declared.listing.Copied.{Copied}
use Rattle.dd_board.specs.declared.listing.Copied.TheVariants.{Made, Unfit, NoMemory}

-- It is a list that begins with another, and has so many entries before its end. It didn't fit only where the locked
-- list doesn't begin with that other one.
abbrev pub IsCopied : {L : Type 0} → Copied L → Spec → List Entry → ℕ → List Entry → Type 0
IsCopied (Made x) spec longest amount es =
    (x.log ≡ listed spec x.told) × IsPrefix longest x.told × (before_end x.told ≡ amount)
IsCopied Unfit spec longest amount es = IsPrefix longest es → ⊥
IsCopied NoMemory spec longest amount es = Unit {0}
