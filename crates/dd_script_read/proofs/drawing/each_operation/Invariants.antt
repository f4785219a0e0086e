use Rattle.std.proofs.Common.{◌≡◌, length, map}
use Rattle.dd_script_read.specs.Tree.{tree_data}
use Rattle.dd_script_read.specs.Script.{each, operation_of}
use Rattle.dd_script_read.proofs.Each.{with_front, left}
use Rattle.dd_script_read.proofs.drawing.each_operation.Given as goal

abbrev pub invariant-loop-tree : goal.invariant-loop-tree
invariant-loop-tree l =
    (length l.ops ≡ l.tree-index)
    × (with_front l.ops (left operation_of l.trees l.tree-index) ≡ each operation_of (map tree_data l.trees))
