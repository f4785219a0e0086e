-- A text that is written whole. Private calls alone cite these words.
use Rattle.std.specs.Prelude.{◌≡◌, ◌⊎◌, ℕ, List, Result, Ok, Err}
use Rattle.dd_prog.specs.declared.status.Status.{Status}
use Rattle.dd_prog.specs.declared.status.Status.TheVariants.{Done, OutOfMemory, WriteFault}
use Rattle.dd_prog.specs.Exchange.{Side, Idle, Faulted, Took, TookFront}

-- a text was written; or a front of it, and the sink failed
abbrev pub WroteText : {K : Type 0} → Side K → List ℕ → Status → Type 0
WroteText sink text status =
    ((status ≡ Done) × Took sink text) ⊎ ((status ≡ WriteFault) × TookFront sink text × Faulted sink)

-- the same of a text that was made; where memory was wanting for it, nothing was written
abbrev pub WroteMade : {K E : Type 0} → Side K → Result (List ℕ) E → Status → Type 0
WroteMade sink (Ok text) status = WroteText sink text status
WroteMade sink (Err e) status = (status ≡ OutOfMemory) × Idle sink
