-- Words of private calls alone: what a call that reads a part of a chunk answers.
use Rattle.std.specs.Prelude.{◌≡◌, ⊤, Result, Ok, Err}
use Rattle.dd_record.specs.declared.fault.Stop.{Stop}
use Rattle.dd_record.specs.declared.fault.Stop.TheVariants as stops
use Rattle.dd_record.specs.Reading.{Reading, Good, Bad, Short}

-- why nothing was read
abbrev pub Stops : {A : Type 0} → Stop → Reading A → Type 0
Stops (stops.Bad at) reading = reading ≡ Bad at
Stops stops.Short reading = reading ≡ Short
Stops stops.OutOfMemory reading = Unit {0}

-- a part of a chunk is read as its definition says; want of memory says nothing
abbrev pub Gives : {A : Type 0} → Result A Stop → Reading A → Type 0
Gives (Ok x) reading = reading ≡ Good x
Gives (Err stop) reading = Stops stop reading

-- something was read
abbrev pub IsGood : {A : Type 0} → Reading A → Type 0
IsGood (Good x) = ⊤
IsGood (Bad at) = ⊥
IsGood Short = ⊥

-- a part of a chunk is tested: it can be read, or stops as its definition says
abbrev pub Passes : {A B : Type 0} → Result A Stop → Reading B → Type 0
Passes (Ok x) reading = IsGood reading
Passes (Err stop) reading = Stops stop reading
