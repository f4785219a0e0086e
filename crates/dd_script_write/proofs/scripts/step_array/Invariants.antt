use Rattle.std.proofs.Common.{◌≡◌, map, take}
use Rattle.serde_json.specs.View.{view}
use Rattle.dd_script_write.specs.Spelling.{step_tree}
use Rattle.dd_script_write.proofs.scripts.step_array.Given as goal

abbrev pub invariant-loop-step : goal.invariant-loop-step
invariant-loop-step l = map view l.list.items ≡ map step_tree (take l.step-index l.steps)
