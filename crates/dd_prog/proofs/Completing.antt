-- What a status says of all the bytes of a source that tells them, and how a command ends where no device failed.
use Rattle.std.proofs.Common.{◌≡◌, ◌⊎◌, inl, inr, ℕ, ◌<◌, ◌≤◌, List, length, Option, Some, None, IfSome, refl, ap, arith, length-append}
use Rattle.std.specs.Io.KnownBytes.{Consumes}
use Rattle.std.proofs.KnownBytes.{Consumes-whole}
use Rattle.dd_prog.specs.declared.status.Status.{Status}
use Rattle.dd_prog.specs.declared.status.Status.TheVariants.{Done, OutOfMemory, BadWords, TooLong, BadScript, BadRecord, ReadFault, WriteFault}
use Rattle.dd_prog.specs.Commands.{Work, Task, works, makes, IsNoInput}
use Rattle.dd_prog.specs.Exchange.{Exchange, Side, Faulted, GaveAll, GaveMore, Took, TookFront, IfTold}
use Rattle.dd_prog.specs.Outcome.{Ran, RefusesInput, Ends, FitsStatus, Completes, Makes, TaskEnds, TaskFits, TaskCompletes}

-- ---- all the bytes of a source

-- they are those that it gave up to its end
all_told : {S : Type 0} (source : Side S) (limit : ℕ) (b : List ℕ) (P : List ℕ → Type 0) → GaveAll source limit b
    → P b → IfTold source P
all_told source limit b P all holds =
    Consumes-whole (source.bytes source.old) (source.bytes source.new) b P all.came all.end holds

-- they are more than the limit where it gave more
more_told : {S : Type 0} (source : Side S) (limit : ℕ) → GaveMore source limit
    → IfTold source (λ bs. limit < length bs)
more_told source limit more = by_bytes (source.bytes source.old) (source.bytes source.new) more.0 more.1 more.3 where
  by_bytes : (a b : Option (List ℕ)) (got : List ℕ) → limit < length got → Consumes a b got
      → IfSome a (λ bs. limit < length bs)
  by_bytes None b got past came = tt
  by_bytes (Some bs) None got past came = absurd came
  by_bytes (Some bs) (Some rest) got past came = omega (arith, ap length came, length-append got rest)

nothing_said : (o : Option (List ℕ)) → IfSome o (λ bs. Unit {0})
nothing_said None = tt
nothing_said (Some bs) = tt

of_input : {S K : Type 0} (w : Work) (x : Exchange S K) (P : List ℕ → Type 0) → Ran w x P
    → IfTold x.source (FitsStatus w Done)
of_input w x P ran =
    all_told x.source w.limit ran.0 (FitsStatus w Done) ran.2 (ran.2.within, (ran.1, ran.3))

of_no_input : (status : Status) {S K : Type 0} (w : Work) (x : Exchange S K) → RefusesInput w x status
    → IfTold x.source (λ bs. (w.bad_input ≡ status) × (length bs ≤ w.limit) × IsNoInput w bs)
of_no_input status w x refuses =
    let none = refuses.1 in
    all_told x.source w.limit none.0 (λ bs. (w.bad_input ≡ status) × (length bs ≤ w.limit) × IsNoInput w bs) none.1
    (refuses.0, none.1.within, none.2)

-- what a status says of the bytes that came, it says of all
pub ends_fits : (status : Status) {S K : Type 0} (w : Work) (x : Exchange S K) → Ends w x status
    → IfTold x.source (FitsStatus w status)
ends_fits Done w x ends = of_input w x (Took x.sink) ends
ends_fits OutOfMemory w x ends = nothing_said (x.source.bytes x.source.old)
ends_fits BadWords w x ends = absurd ends
ends_fits TooLong w x ends = more_told x.source w.limit ends.0
ends_fits BadScript w x ends = of_no_input BadScript w x ends
ends_fits BadRecord w x ends = of_no_input BadRecord w x ends
ends_fits ReadFault w x ends = nothing_said (x.source.bytes x.source.old)
ends_fits WriteFault w x ends = of_input w x (TookFront x.sink) ends.0

-- ---- where the input is there and no device failed

-- each other status has a cause that doesn't stand
completes : (status : Status) {S K : Type 0} (w : Work) (x : Exchange S K) (bs : List ℕ) → Ends w x status
    → FitsStatus w status bs → Completes w x status bs
completes Done w x bs ends fits has read write = inl refl
completes OutOfMemory w x bs ends fits has read write = inr refl
completes BadWords w x bs ends fits has read write = absurd fits
completes TooLong w x bs ends fits has read write = absurd (omega (arith, fits, has.0))
completes BadScript w x bs ends fits has read write = absurd (fits.2 has.1.0 has.1.1)
completes BadRecord w x bs ends fits has read write = absurd (fits.2 has.1.0 has.1.1)
completes ReadFault w x bs ends fits has read write = absurd (read ends.0)
completes WriteFault w x bs ends fits has read write = absurd (write ends.1)

-- of a source that tells its bytes
told_completes : (status : Status) {S K : Type 0} (w : Work) (x : Exchange S K) → Ends w x status
    → IfTold x.source (FitsStatus w status) → IfTold x.source (Completes w x status)
told_completes status w x ends fits = by_bytes (x.source.bytes x.source.old) fits where
  by_bytes : (o : Option (List ℕ)) → IfSome o (FitsStatus w status) → IfSome o (Completes w x status)
  by_bytes None fits = tt
  by_bytes (Some bs) fits = completes status w x bs ends fits

-- ---- of any command

-- a text that is made is written, unless memory is wanting or the sink failed
made_completes : (status : Status) {K : Type 0} (text : List ℕ) (sink : Side K) → Makes text sink status
    → (Faulted sink → ⊥) → (status ≡ Done) ⊎ (status ≡ OutOfMemory)
made_completes Done text sink ends write = inl refl
made_completes OutOfMemory text sink ends write = inr refl
made_completes BadWords text sink ends write = absurd ends
made_completes TooLong text sink ends write = absurd ends
made_completes BadScript text sink ends write = absurd ends
made_completes BadRecord text sink ends write = absurd ends
made_completes ReadFault text sink ends write = absurd ends
made_completes WriteFault text sink ends write = absurd (write ends.1)

pub task_completes : (t : Task) (status : Status) {S K : Type 0} (x : Exchange S K) → TaskEnds t x status
    → TaskFits t x.source status → TaskCompletes t x status
task_completes (works w) status x ends fits = told_completes status w x ends fits
task_completes (makes text) status x ends fits = made_completes status text x.sink ends.1
