-- What each status says of the bytes that came in and those that went out.
use Rattle.std.specs.Prelude.{◌≡◌, ◌⊎◌, true, ℕ, ◌≤◌, ◌<◌, List, length, Option, Some, None, Result, Ok, Err}
use Rattle.dd_prog.specs.declared.fault.InputFault.{InputFault}
use Rattle.dd_prog.specs.declared.fault.InputFault.TheVariants as causes
use Rattle.dd_prog.specs.declared.fault.RunFault.{RunFault}
use Rattle.dd_prog.specs.declared.fault.RunFault.TheVariants as faults
use Rattle.dd_prog.specs.declared.status.Status.{Status}
use Rattle.dd_prog.specs.declared.status.Status.TheVariants.{Done, OutOfMemory, BadWords, TooLong, BadScript, BadRecord, ReadFault, WriteFault}
use Rattle.dd_prog.specs.declared.command.Command.{Command}
use Rattle.dd_prog.specs.Commands.{Work, Task, works, makes, task, IsNoInput}
use Rattle.dd_prog.specs.Exchange.{Side, Exchange, Idle, Faulted, GaveAll, GaveMore, Took, TookFront, IfTold}

-- the command's input that all the bytes are, or why there is none
abbrev pub ReadsInput : {S : Type 0} → (w : Work) → Side S → Result w.Input InputFault → Type 0
ReadsInput w source (Ok i) = (b : List ℕ) × GaveAll source w.limit b × w.accepts b i
ReadsInput w source (Err causes.BadInput) = (b : List ℕ) × GaveAll source w.limit b × IsNoInput w b
ReadsInput w source (Err causes.TooLong) = GaveMore source w.limit
ReadsInput w source (Err causes.Failed) = Faulted source
ReadsInput w source (Err causes.OutOfMemory) = Unit {0}

-- what the bytes of a source that tells them are, by what was read; a fault and want of memory say nothing
abbrev pub FitsRead : (w : Work) → Result w.Input InputFault → List ℕ → Type 0
FitsRead w (Ok i) bs = (length bs ≤ w.limit) × w.accepts bs i
FitsRead w (Err causes.BadInput) bs = (length bs ≤ w.limit) × IsNoInput w bs
FitsRead w (Err causes.TooLong) bs = w.limit < length bs
FitsRead w (Err causes.Failed) bs = Unit {0}
FitsRead w (Err causes.OutOfMemory) bs = Unit {0}

-- a run wrote all of its text, or a front of it and why no more
abbrev pub WritesText : {K : Type 0} → Side K → List ℕ → Result (Unit {0}) RunFault → Type 0
WritesText sink text (Ok x) = Took sink text
WritesText sink text (Err faults.OutOfMemory) = TookFront sink text
WritesText sink text (Err faults.WriteFault) = TookFront sink text × Faulted sink

-- the bytes that came are an input of the command, and P holds of its text
abbrev pub Ran : {S K : Type 0} → Work → Exchange S K → (List ℕ → Type 0) → Type 0
Ran w x P = (b : List ℕ) × (i : w.Input) × GaveAll x.source w.limit b × w.accepts b i × P (w.text i)

-- the bytes that came are no input of the command, for which it has this status, and nothing was written
abbrev pub RefusesInput : {S K : Type 0} → Work → Exchange S K → Status → Type 0
RefusesInput w x status =
    (w.bad_input ≡ status) × ((b : List ℕ) × GaveAll x.source w.limit b × IsNoInput w b) × Idle x.sink

-- What the status of a command says: of the bytes that came and went, of the counts of faults, and that a sink which
-- nothing was written to is as it was.
abbrev pub Ends : {S K : Type 0} → Work → Exchange S K → Status → Type 0
Ends w x Done = Ran w x (Took x.sink)
Ends w x OutOfMemory = Idle x.sink ⊎ ((w.in_parts ≡ true) × Ran w x (TookFront x.sink))
Ends w x BadWords = ⊥
Ends w x TooLong = GaveMore x.source w.limit × Idle x.sink
Ends w x BadScript = RefusesInput w x BadScript
Ends w x BadRecord = RefusesInput w x BadRecord
Ends w x ReadFault = Faulted x.source × Idle x.sink
Ends w x WriteFault = Ran w x (TookFront x.sink) × Faulted x.sink

-- the bytes are an input within the limit
abbrev pub HasInput : Work → List ℕ → Type 0
HasInput w bs = (length bs ≤ w.limit) × ((i : w.Input) × w.accepts bs i)

-- the bytes are no input, within the limit, for which the command has this status
abbrev pub HasNoInput : Work → List ℕ → Status → Type 0
HasNoInput w bs status = (w.bad_input ≡ status) × (length bs ≤ w.limit) × IsNoInput w bs

-- what the bytes of a source that tells them are, by the status; a read fault and want of memory say nothing
abbrev pub FitsStatus : Work → Status → List ℕ → Type 0
FitsStatus w Done bs = HasInput w bs
FitsStatus w OutOfMemory bs = Unit {0}
FitsStatus w BadWords bs = ⊥
FitsStatus w TooLong bs = w.limit < length bs
FitsStatus w BadScript bs = HasNoInput w bs BadScript
FitsStatus w BadRecord bs = HasNoInput w bs BadRecord
FitsStatus w ReadFault bs = Unit {0}
FitsStatus w WriteFault bs = HasInput w bs

-- Where the bytes are an input within the limit and neither count rose, all is done, unless memory is wanting.
abbrev pub Completes : {S K : Type 0} → Work → Exchange S K → Status → List ℕ → Type 0
Completes w x status bs =
    HasInput w bs → (Faulted x.source → ⊥) → (Faulted x.sink → ⊥) → (status ≡ Done) ⊎ (status ≡ OutOfMemory)

-- What the status of a command that reads nothing says of the text that it makes: memory is wanted before a byte is
-- written.
abbrev pub Makes : {K : Type 0} → List ℕ → Side K → Status → Type 0
Makes text sink Done = Took sink text
Makes text sink OutOfMemory = Idle sink
Makes text sink BadWords = ⊥
Makes text sink TooLong = ⊥
Makes text sink BadScript = ⊥
Makes text sink BadRecord = ⊥
Makes text sink ReadFault = ⊥
Makes text sink WriteFault = TookFront sink text × Faulted sink

-- How a command ends: it reads an input, or its source is as it was.
abbrev pub TaskEnds : {S K : Type 0} → Task → Exchange S K → Status → Type 0
TaskEnds (works w) x status = Ends w x status
TaskEnds (makes text) x status = Idle x.source × Makes text x.sink status

-- what a status says of a source that tells its bytes, where the command reads them
abbrev pub TaskFits : {S : Type 0} → Task → Side S → Status → Type 0
TaskFits (works w) source status = IfTold source (FitsStatus w status)
TaskFits (makes text) source status = Unit {0}

-- Where nothing stands against it, all is done, unless memory is wanting.
abbrev pub TaskCompletes : {S K : Type 0} → Task → Exchange S K → Status → Type 0
TaskCompletes (works w) x status = IfTold x.source (Completes w x status)
TaskCompletes (makes text) x status = (Faulted x.sink → ⊥) → (status ≡ Done) ⊎ (status ≡ OutOfMemory)

-- What a program does, by the command that its words are: nothing where they are none, else what the command's status
-- says.
abbrev pub Does : {S K : Type 0} → Option Command → Exchange S K → Status → Type 0
Does None x status = (status ≡ BadWords) × Idle x.source × Idle x.sink
Does (Some c) x status =
    TaskEnds (task c) x status × TaskFits (task c) x.source status × TaskCompletes (task c) x status

-- the status of a run that ended so
abbrev pub status_of_run : Result (Unit {0}) RunFault → Status
status_of_run (Ok x) = Done
status_of_run (Err faults.OutOfMemory) = OutOfMemory
status_of_run (Err faults.WriteFault) = WriteFault

-- the status of a command whose input wasn't read for this cause
abbrev pub status_of_input : Work → InputFault → Status
status_of_input w causes.TooLong = TooLong
status_of_input w causes.BadInput = w.bad_input
status_of_input w causes.Failed = ReadFault
status_of_input w causes.OutOfMemory = OutOfMemory
