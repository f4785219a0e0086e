-- What holds of the script of every seed where it is read and run.
use Rattle.std.specs.Prelude.{◌≡◌, ℕ, Bool, length, is_none, IsTrue}
use Rattle.std.specs.List.{list_all}
use Rattle.dd_calls.specs.declared.answers.Answer.{Answer}
use Rattle.dd_calls.specs.declared.steps.Script.{Script}
use Rattle.dd_station.specs.Run.{start, after, run}
use Rattle.dd_calls.specs.Parts.{refusal_in}
use Rattle.dd_script_read.specs.Reading.{IsScript}
use Rattle.dd_script_read.specs.Script.{IsRunnable}
use Rattle.dd_script_read.specs.Readable.{is_readable}
use Rattle.dd_script_write.specs.Texts.{script_line}
use Rattle.dd_gen.specs.Generator.{made}

-- its own tree is read as that script
abbrev pub MadeScriptsAreReadable : Type 0
MadeScriptsAreReadable = (seed : ℕ) → IsTrue (is_readable (made seed))

-- and it can be run
abbrev pub MadeScriptsAreRunnable : Type 0
MadeScriptsAreRunnable = (seed : ℕ) → IsRunnable (made seed)

-- and what is written of it is an input of each command that reads scripts: that very script
abbrev pub MadeScriptsAreRead : Type 0
MadeScriptsAreRead = (seed : ℕ) → IsScript (script_line (made seed)) (made seed)

-- an answer that is no refusal
abbrev pub is_no_refusal : Answer → Bool
is_no_refusal a = is_none (refusal_in a)

-- no step is refused, and so many events are entered
pub record RefusesNothing (entries : ℕ) (s : Script) : Type 0 where
  pub answers : IsTrue (list_all is_no_refusal (run s))
  pub entered : length (after (start s.spec s.clients) s.steps).history.entries ≡ entries

-- three openings, 300 presents, 100 pointers and three closings are entered, and nothing is refused
abbrev pub MadeScriptsAreGranted : Type 0
MadeScriptsAreGranted = (seed : ℕ) → RefusesNothing 406 (made seed)
