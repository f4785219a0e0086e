use Rattle.std.proofs.Common.{◌≡◌, map, take}
use Rattle.serde_json.specs.View.{view}
use Rattle.dd_script_write.specs.Spelling.{mode_tree}
use Rattle.dd_script_write.proofs.scripts.mode_array.Given as goal

abbrev pub invariant-loop-mode : goal.invariant-loop-mode
invariant-loop-mode l = map view l.list.items ≡ map mode_tree (take l.mode-index l.modes)
