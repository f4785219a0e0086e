-- That nothing of what covers hide reaches an answer of a run.
use Rattle.std.specs.Prelude.{◌≡◌, Bool, true, List, map}
use Rattle.std.specs.List.{list_all}
use Rattle.dd_log.specs.declared.events.Event.TheVariants as events
use Rattle.dd_log.specs.Veil.{veiled_drawing, event_coloured}
use Rattle.dd_calls.specs.declared.steps.Script.{Script}
use Rattle.dd_calls.specs.declared.steps.Step.{Step}
use Rattle.dd_calls.specs.declared.steps.Step.TheVariants as steps
use Rattle.dd_station.specs.Run.{run}

-- a drawing whose covers hide black; a call as it is
abbrev pub veiled_step : Step → Step
veiled_step (steps.Draw d) = steps.Draw (veiled_drawing d)
veiled_step (steps.Call k call) = steps.Call k call

-- the same script with its covers' colours black
abbrev pub veiled_script : Script → Script
veiled_script script = record { spec = script.spec; clients = script.clients; steps = map veiled_step script.steps }

-- what the covers of a step hide are colours
abbrev pub step_coloured : Step → Bool
step_coloured (steps.Draw d) = event_coloured (events.Draw d)
step_coloured (steps.Call k call) = true

-- and those of all steps
abbrev pub steps_coloured : List Step → Bool
steps_coloured ts = list_all step_coloured ts

-- Where what covers hide are colours, a script is answered as the script in which they hide black.
abbrev pub HiddenContent : Type 0
HiddenContent = (script : Script) → steps_coloured script.steps ≡ true → run (veiled_script script) ≡ run script
