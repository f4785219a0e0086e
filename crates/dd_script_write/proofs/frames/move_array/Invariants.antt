use Rattle.std.proofs.Common.{◌≡◌, map, take}
use Rattle.serde_json.specs.View.{view}
use Rattle.dd_script_write.specs.Answers.{move_tree}
use Rattle.dd_script_write.proofs.frames.move_array.Given as goal

abbrev pub invariant-loop-m : goal.invariant-loop-m
invariant-loop-m l = map view l.list.items ≡ map move_tree (take l.m-index l.moves)
