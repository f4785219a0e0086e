use Rattle.std.proofs.Common.{refl}
use Rattle.json.specs.Value.{value_view}
use Rattle.dd_script_read.specs.Tree.{tree_data}
use Rattle.dd_script_read.proofs.Readings.{is_json, no_json}
use Rattle.dd_script_read.proofs.parsing.tree_of.Goals as goal

pub returns-then-has_numbers : goal.returns-then-has_numbers
unfolding tree_data
returns-then-has_numbers c =
    is_json c.args.text.now c.args.text.now (value_view c.in_ok-tree.tree) refl c.utf8.text c.in_ok-tree.ensures
    c.if-has_numbers.ensures

pub returns : goal.returns
unfolding tree_data
returns c d is =
    no_json c.args.text.now c.args.text.now (value_view c.in_ok-tree.tree) d refl c.in_ok-tree.ensures
    c.if-has_numbers.ensures is
