-- What a call took from its source and left in its sink.
use Rattle.std.specs.Prelude.{◌≡◌, ◌⊎◌, ℕ, ◌+◌, ◌≤◌, List, length, Option, IfSome}
use Rattle.std.specs.Io.KnownBytes.{Appends, Consumes, IsAtEnd}
use Rattle.dd_io.specs.Causes.{Rose}
use Rattle.dd_io.specs.Transfer.{AppendsPrefix, GivesMoreThan}
use Rattle.dd_io.specs.declared.transfer.TheConstants.{CHUNK}

-- A device before and after a call, what it tells of its bytes, and its count of faults.
pub record Side (D : Type 0) : Type 0 where
  pub bytes : D → Option (List ℕ)
  pub faults : D → ℕ
  pub old : D
  pub new : D

-- Both devices of a call.
pub record Exchange (S K : Type 0) : Type 0 where
  pub source : Side S
  pub sink : Side K

abbrev pub side : {D : Type 0} → (D → Option (List ℕ)) → (D → ℕ) → D → D → Side D
side bytes faults old new = record { bytes = bytes; faults = faults; old = old; new = new }

-- the device is as it was
abbrev pub Idle : {D : Type 0} → Side D → Type 0
Idle d = d.new ≡ d.old

-- the device's count of faults rose
abbrev pub Faulted : {D : Type 0} → Side D → Type 0
Faulted d = Rose (d.faults d.old) (d.faults d.new)

-- the source gave these bytes, within the limit, and then its end
pub record GaveAll {D : Type 0} (source : Side D) (limit : ℕ) (bs : List ℕ) : Type 0 where
  pub came : Consumes (source.bytes source.old) (source.bytes source.new) bs
  pub end : IsAtEnd (source.bytes source.new)
  pub within : length bs ≤ limit

-- the source gave more than the limit, and not much more
abbrev pub GaveMore : {D : Type 0} → Side D → ℕ → Type 0
GaveMore source limit = GivesMoreThan limit (limit + CHUNK) (source.bytes source.old) (source.bytes source.new)

-- the sink took these bytes and no others
abbrev pub Took : {D : Type 0} → Side D → List ℕ → Type 0
Took sink bs = Appends (sink.bytes sink.old) (sink.bytes sink.new) bs

-- the sink took the first of these bytes, how many isn't said
abbrev pub TookFront : {D : Type 0} → Side D → List ℕ → Type 0
TookFront sink bs = AppendsPrefix (sink.bytes sink.old) (sink.bytes sink.new) bs

-- the sink took these bytes, or failed and took the first of them
abbrev pub TookOrFailed : {D : Type 0} → Side D → List ℕ → Type 0
TookOrFailed sink bs = Took sink bs ⊎ (TookFront sink bs × Faulted sink)

-- a fact about all the bytes that the source had, where it tells them
abbrev pub IfTold : {D : Type 0} → Side D → (List ℕ → Type 0) → Type 0
IfTold source P = IfSome (source.bytes source.old) P
