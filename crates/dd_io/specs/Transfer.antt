-- What a transfer of many pieces took from a source, or left in a sink.
use Rattle.std.specs.Prelude.{◌≡◌, ℕ, ◌<◌, ◌≤◌, List, length, take, Option, None, Some, Result, Ok, Err}
use Rattle.std.specs.Io.KnownBytes.{Appends, Consumes, IsAtEnd, Keeps}
use Rattle.std.specs.Borrow.{Bor}
use Rattle.dd_io.specs.declared.fault.ReadUpFault.{ReadUpFault}
use Rattle.dd_io.specs.declared.fault.ReadUpFault.TheVariants.{Failed, TooLong, OutOfMemory}

-- A read of one piece: at most `room` bytes that are next, and at least one; or none at the end of input; or none as it
-- failed.
abbrev pub GivesPiece : {F : Type 0} → Option (List ℕ) → Option (List ℕ) → ℕ → Result (Option (Bor (List ℕ))) F → Type 0
GivesPiece old new room (Ok (Some piece)) =
    Consumes old new piece.now × (0 < length piece.now) × (length piece.now ≤ room)
GivesPiece old new room (Ok None) = Keeps old new × IsAtEnd new
GivesPiece old new room (Err e) = Keeps old new

-- the first bytes of bs were appended, how many isn't said
abbrev pub AppendsPrefix : Option (List ℕ) → Option (List ℕ) → List ℕ → Type 0
AppendsPrefix old new bs = (n : ℕ) × (n ≤ length bs) × Appends old new (take n bs)

-- some bytes came, at most `limit` of them
abbrev pub GivesAtMost : ℕ → Option (List ℕ) → Option (List ℕ) → Type 0
GivesAtMost limit old new = (got : List ℕ) × (length got ≤ limit) × Consumes old new got

-- more than `limit` bytes came, and at most `most`
abbrev pub GivesMoreThan : ℕ → ℕ → Option (List ℕ) → Option (List ℕ) → Type 0
GivesMoreThan limit most old new = (got : List ℕ) × (limit < length got) × (length got ≤ most) × Consumes old new got

-- The answer over a source that tells its bytes: all of them where they are within the limit, and too long only
-- where they are more.
abbrev pub ReadsAll : Option (List ℕ) → ℕ → Result (List ℕ) ReadUpFault → Type 0
ReadsAll None limit r = Unit {0}
ReadsAll (Some bs) limit (Ok v) = (v ≡ bs) × (length bs ≤ limit)
ReadsAll (Some bs) limit (Err TooLong) = limit < length bs
ReadsAll (Some bs) limit (Err Failed) = Unit {0}
ReadsAll (Some bs) limit (Err OutOfMemory) = Unit {0}
