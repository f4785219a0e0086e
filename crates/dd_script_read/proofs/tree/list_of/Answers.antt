use Rattle.std.proofs.Common.{Some, map, ap, ◌∙◌}
use Rattle.dd_script_read.specs.Tree.{tree_data}
use Rattle.dd_script_read.proofs.Trees.{tree_list}
use Rattle.dd_script_read.proofs.tree.list_of.Goals as goal

pub returns-in-Array : goal.returns-in-Array
returns-in-Array c =
    ap (λ vs. Some (map tree_data vs)) c.as_slice.ensures.value
    ∙ tree_list c.in-Array.items c.args.tree.now c.in-Array.is
