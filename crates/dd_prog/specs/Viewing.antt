-- A record that is read in pieces. Private calls alone cite these words.
use Rattle.std.specs.Prelude.{◌≡◌, ℕ, List, Option, None, Some, Result, Ok, Err}
use Rattle.dd_record.specs.declared.fault.RecordFault.{RecordFault}
use Rattle.dd_record.specs.declared.fault.RecordFault.TheVariants as faults
use Rattle.dd_view.specs.Playing.{Shown}
use Rattle.dd_view.specs.Ppm.{ppm_text}
use Rattle.dd_view.specs.Player.{Reader, reader_of, feed_answer}
use Rattle.dd_prog.specs.declared.fault.InputFault.{InputFault}
use Rattle.dd_prog.specs.declared.fault.InputFault.TheVariants as causes
use Rattle.dd_prog.specs.Commands.{Work, view_work, IsRecordShowing, IsNoInput}
use Rattle.dd_prog.specs.Exchange.{Side, GaveAll}
use Rattle.dd_prog.specs.Outcome.{ReadsInput}

-- A player that was fed some bytes has read them; or the first fault that was found is theirs, unless memory was
-- wanting.
abbrev pub Fed : ℕ → List ℕ → Option RecordFault → Reader → Type 0
Fed asked b None player = player ≡ reader_of asked b
Fed asked b (Some faults.OutOfMemory) player = Unit {0}
Fed asked b (Some fault) player = feed_answer (reader_of asked b) ≡ Err fault

-- the whole input was fed; or why it wasn't read
abbrev pub FedAll : {S : Type 0} → ℕ → Side S → Result (Option RecordFault) InputFault → Reader → Type 0
FedAll asked source (Ok fault) player =
    (b : List ℕ) × GaveAll source (view_work asked).limit b × Fed asked b fault player
FedAll asked source (Err cause) player = ReadsInput (view_work asked) source (Err cause)

-- the text that a command writes for the input that all the bytes are; or why there is none
abbrev pub Texts : {S : Type 0} → Work → Side S → Result (List ℕ) InputFault → Type 0
Texts w source (Ok text) =
    (b : List ℕ) × (i : w.Input) × GaveAll source w.limit b × w.accepts b i × (text ≡ w.text i)
Texts w source (Err cause) = ReadsInput w source (Err cause)

-- the text of what is shown, unless memory was wanting; where nothing is, the record is a bad input
abbrev pub Pictures : Option Shown → Result (List ℕ) InputFault → Type 0
Pictures None r = r ≡ Err causes.BadInput
Pictures (Some shown) (Ok text) = text ≡ ppm_text shown.surface shown.mode
Pictures (Some shown) (Err cause) = cause ≡ causes.OutOfMemory

-- the text for the input that some bytes are; or why there is none
abbrev pub Pictured : ℕ → List ℕ → Result (List ℕ) InputFault → Type 0
Pictured asked b (Ok text) = (i : Shown) × IsRecordShowing asked b i × (text ≡ (view_work asked).text i)
Pictured asked b (Err causes.BadInput) = IsNoInput (view_work asked) b
Pictured asked b (Err causes.OutOfMemory) = Unit {0}
Pictured asked b (Err causes.TooLong) = ⊥
Pictured asked b (Err causes.Failed) = ⊥
