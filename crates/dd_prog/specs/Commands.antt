-- The commands, and what each does.
use Rattle.std.specs.Prelude.{◌≡◌, ℕ, ◌≤◌, Bool, true, false, codes, List, [], ◌∷◌, length, Option, Some, None, option_map, Ok, if◌then◌else◌}
use Rattle.std.specs.Str.{bytes_eq}
use Rattle.dd_calls.specs.declared.steps.Script.{Script}
use Rattle.dd_calls.specs.declared.steps.TheConstants.{MAX_CLIENTS}
use Rattle.dd_station.specs.Run.{run}
use Rattle.dd_calls.specs.Counting.{counts_of}
use Rattle.dd_gen.specs.Generator.{made}
use Rattle.dd_script_read.specs.Reading.{IsScript}
use Rattle.dd_script_write.specs.Texts as texts
use Rattle.dd_view.specs.Playing.{Shown}
use Rattle.dd_view.specs.Ppm.{ppm_text}
use Rattle.dd_view.specs.Player.{reader_of, finish_answer}
use Rattle.dd_prog.specs.declared.command.Command.{Command}
use Rattle.dd_prog.specs.declared.command.Command.TheVariants.{Replay, Record, View, Gen, Sum}
use Rattle.dd_prog.specs.declared.command.TheConstants.{MAX_FRAME}
use Rattle.dd_prog.specs.declared.reading.TheConstants.{MAX_SCRIPT_BYTES, MAX_RECORD_BYTES}
use Rattle.dd_prog.specs.declared.status.Status.{Status}
use Rattle.dd_prog.specs.declared.status.Status.TheVariants.{BadScript, BadRecord}
use Rattle.dd_prog.specs.Options.{u32_max, number_given}
use Rattle.dd_prog.specs.Recording.{record_of}

-- a command that takes no further word
abbrev pub alone : Command → List (List ℕ) → Option Command
alone c [] = Some c
alone c (w ∷ ws) = None

-- the command that the words are, by the first of them
abbrev pub command_of : List (List ℕ) → Option Command
command_of [] = None
command_of (w ∷ ws) =
    if bytes_eq w (codes "replay") then alone Replay ws
    else if bytes_eq w (codes "record")
    then option_map (λ n. Record n) (number_given (codes "--client") 1 MAX_CLIENTS ws)
    else if bytes_eq w (codes "view") then option_map (λ n. View n) (number_given (codes "--frame") 1 MAX_FRAME ws)
    else if bytes_eq w (codes "gen") then option_map (λ n. Gen n) (number_given (codes "--seed") 0 u32_max ws)
    else if bytes_eq w (codes "sum") then option_map (λ n. Sum n) (number_given (codes "--seed") 0 u32_max ws)
    else None

-- What a command does: how many bytes it reads at most, which bytes it takes for which input, the text that it writes
-- for an input, whether it writes parts of it before all is made, and how it ends where the bytes are none.
pub record Work : Type 1 where
  pub Input : Type 0
  pub limit : ℕ
  pub accepts : List ℕ → Input → Type 0
  pub text : Input → List ℕ
  pub in_parts : Bool
  pub bad_input : Status

-- the bytes are a script that has the client
abbrev pub IsScriptWith : ℕ → List ℕ → Script → Type 0
IsScriptWith client b s = IsScript b s × (client ≤ length s.clients)

-- the bytes are a whole record, which shows this after the frame
abbrev pub IsRecordShowing : ℕ → List ℕ → Shown → Type 0
IsRecordShowing frame b shown =
    (finish_answer (reader_of frame b) ≡ Ok tt) × ((reader_of frame b).played.shown ≡ Some shown)

-- the answers of a script
abbrev pub replay_work : Work
replay_work = record {
  Input = Script;
  limit = MAX_SCRIPT_BYTES;
  accepts = IsScript;
  text = λ s. texts.text (run s);
  in_parts = true;
  bad_input = BadScript;
}

-- the record of a client
abbrev pub record_work : ℕ → Work
record_work client = record {
  Input = Script;
  limit = MAX_SCRIPT_BYTES;
  accepts = IsScriptWith client;
  text = λ s. record_of s client;
  in_parts = true;
  bad_input = BadScript;
}

-- the picture after a frame
abbrev pub view_work : ℕ → Work
view_work frame = record {
  Input = Shown;
  limit = MAX_RECORD_BYTES;
  accepts = IsRecordShowing frame;
  text = λ shown. ppm_text shown.surface shown.mode;
  in_parts = false;
  bad_input = BadRecord;
}

-- A command reads an input and works on it, or it reads nothing and writes a text that its words tell.
pub data Task : Type 1 where
  works : Work → Task
  makes : List ℕ → Task

abbrev pub task : Command → Task
task Replay = works replay_work
task (Record client) = works (record_work client)
task (View frame) = works (view_work frame)
task (Gen seed) = makes (texts.script_line (made seed))
task (Sum seed) = makes (texts.counts_line (counts_of (run (made seed))))

-- a client and a frame are counted from 1, and a seed is any number
abbrev pub IsCounted : Command → Type 0
IsCounted Replay = Unit {0}
IsCounted (Record client) = 1 ≤ client
IsCounted (View frame) = 1 ≤ frame
IsCounted (Gen seed) = Unit {0}
IsCounted (Sum seed) = Unit {0}

-- the bytes are no input of the command
abbrev pub IsNoInput : Work → List ℕ → Type 0
IsNoInput w b = (i : w.Input) → w.accepts b i → ⊥
