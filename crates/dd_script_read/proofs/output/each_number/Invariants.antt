use Rattle.std.proofs.Common.{◌≡◌, map}
use Rattle.dd_script_read.specs.Tree.{tree_data}
use Rattle.dd_script_read.specs.Script.{each, u32_of}
use Rattle.dd_script_read.proofs.Each.{with_front, left}
use Rattle.dd_script_read.proofs.output.each_number.Given as goal

abbrev pub invariant-loop-tree : goal.invariant-loop-tree
invariant-loop-tree l =
    with_front l.numbers.items (left u32_of l.trees l.tree-index) ≡ each u32_of (map tree_data l.trees)
