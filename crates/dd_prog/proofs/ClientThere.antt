-- An input that is none of a replay is none of a record.
use Rattle.std.proofs.Common.{ℕ, List, Option, Some, None, Err}
use Rattle.std.specs.Prelude.{IfSome}
use Rattle.dd_prog.specs.declared.fault.InputFault.{InputFault}
use Rattle.dd_prog.specs.declared.fault.InputFault.TheVariants as causes
use Rattle.dd_prog.specs.Commands.{replay_work, record_work}
use Rattle.dd_prog.specs.Exchange.{Side, IfTold}
use Rattle.dd_prog.specs.Outcome.{ReadsInput, FitsRead}

pub no_record : {S : Type 0} (fault : InputFault) (client : ℕ) (source : Side S)
    → ReadsInput replay_work source (Err fault) → ReadsInput (record_work client) source (Err fault)
no_record causes.BadInput client source reads = (reads.0, reads.1, λ i is. reads.2 i is.0)
no_record causes.TooLong client source reads = reads
no_record causes.Failed client source reads = reads
no_record causes.OutOfMemory client source reads = reads

fits_none : (fault : InputFault) (client : ℕ) (bs : List ℕ) → FitsRead replay_work (Err fault) bs
    → FitsRead (record_work client) (Err fault) bs
fits_none causes.BadInput client bs fits = (fits.0, λ i is. fits.1 i is.0)
fits_none causes.TooLong client bs fits = fits
fits_none causes.Failed client bs fits = fits
fits_none causes.OutOfMemory client bs fits = fits

if_some : {A : Type 0} (P Q : A → Type 0) (o : Option A) → ((x : A) → P x → Q x) → IfSome o P → IfSome o Q
if_some P Q None f p = p
if_some P Q (Some x) f p = f x p

pub no_record_told : {S : Type 0} (fault : InputFault) (client : ℕ) (source : Side S)
    → IfTold source (FitsRead replay_work (Err fault)) → IfTold source (FitsRead (record_work client) (Err fault))
no_record_told fault client source =
    if_some (FitsRead replay_work (Err fault)) (FitsRead (record_work client) (Err fault))
    (source.bytes source.old) (fits_none fault client)
