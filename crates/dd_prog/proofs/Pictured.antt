-- The text of what a whole record shows, for the bytes that a source gave.
use Rattle.std.proofs.Common.{ℕ, List, Result, Ok, Err}
use Rattle.dd_prog.specs.declared.fault.InputFault.{InputFault}
use Rattle.dd_prog.specs.declared.fault.InputFault.TheVariants as causes
use Rattle.dd_prog.specs.Commands.{view_work}
use Rattle.dd_prog.specs.Exchange.{Side, GaveAll}
use Rattle.dd_prog.specs.Viewing.{Pictured, Texts}

-- the text for all the bytes that a source gave
pub texts : (r : Result (List ℕ) InputFault) {S : Type 0} (asked : ℕ) (source : Side S) (b : List ℕ)
    → GaveAll source (view_work asked).limit b → Pictured asked b r → Texts (view_work asked) source r
texts (Ok text) asked source b gave made = (b, made.0, gave, made.1, made.2)
texts (Err causes.BadInput) asked source b gave made = (b, gave, made)
texts (Err causes.OutOfMemory) asked source b gave made = tt
texts (Err causes.TooLong) asked source b gave made = absurd made
texts (Err causes.Failed) asked source b gave made = absurd made
