-- Lines that are kept before they are written. Private calls alone cite these words.
use Rattle.std.specs.Prelude.{◌≡◌, ℕ, List, ◌++◌, Result, Ok, Err}
use Rattle.dd_prog.specs.declared.fault.RunFault.{RunFault}
use Rattle.dd_prog.specs.Exchange.{Side, Took}
use Rattle.dd_prog.specs.Outcome.{WritesText}

-- of the bytes that were kept and these, the sink took the first, and the rest is kept now
abbrev pub KeepsRest : {K : Type 0} → Side K → List ℕ → List ℕ → List ℕ → Type 0
KeepsRest sink old new bs = (wrote : List ℕ) × Took sink wrote × (wrote ++ new ≡ old ++ bs)

-- bytes were added to those kept; or a front of all of them was written, and why no more
abbrev pub Adds : {K : Type 0} → Side K → List ℕ → List ℕ → List ℕ → Result (Unit {0}) RunFault → Type 0
Adds sink old new bs (Ok x) = KeepsRest sink old new bs
Adds sink old new bs (Err fault) = WritesText sink (old ++ bs) (Err fault)
