use Rattle.std.proofs.Common.{◌≡◌, map, take}
use Rattle.serde_json.specs.View.{view}
use Rattle.dd_script_write.specs.Spelling.{op_tree}
use Rattle.dd_script_write.proofs.drawing.op_array.Given as goal

abbrev pub invariant-loop-op : goal.invariant-loop-op
invariant-loop-op l = map view l.list.items ≡ map op_tree (take l.op-index l.ops)
