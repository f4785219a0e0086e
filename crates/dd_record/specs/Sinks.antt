-- What a call appended to a sink, and what it kept for the next one. Private calls alone cite these words.
use Rattle.std.specs.Prelude.{◌≡◌, ℕ, ◌≤◌, List, ◌++◌, Option, Result, Ok, Err}
use Rattle.std.specs.Io.KnownBytes.{Appends}
use Rattle.dd_io.specs.declared.fault.Failed.{Failed}
use Rattle.dd_io.specs.Causes.{Rose}
use Rattle.dd_io.specs.Transfer.{AppendsPrefix}

-- A sink before and after a call: the bytes that it holds, where it tells them, and its count of faults.
pub record Change : Type 0 where
  pub old : Option (List ℕ)
  pub new : Option (List ℕ)
  pub before : ℕ
  pub after : ℕ

abbrev pub change : {K : Type 0} → (K → Option (List ℕ)) → (K → ℕ) → K → K → Change
change held faults old new = record { old = held old; new = held new; before = faults old; after = faults new }

-- bytes were appended; or the first of them, how many isn't said, and the sink failed
abbrev pub Writes : Change → List ℕ → Result (Unit {0}) Failed → Type 0
Writes c bs (Ok x) = Appends c.old c.new bs × (c.before ≤ c.after)
Writes c bs (Err e) = AppendsPrefix c.old c.new bs × (c.before ≤ c.after) × Rose c.before c.after

-- of the bytes that were kept and these, the first were appended, and the rest is kept now; or the sink failed, and
-- took the first of them all
abbrev pub Adds : Change → List ℕ → List ℕ → List ℕ → Result (Unit {0}) Failed → Type 0
Adds c kept now bs (Ok x) =
    (wrote : List ℕ) × Appends c.old c.new wrote × (wrote ++ now ≡ kept ++ bs) × (c.before ≤ c.after)
Adds c kept now bs (Err e) = Writes c (kept ++ bs) (Err e)
