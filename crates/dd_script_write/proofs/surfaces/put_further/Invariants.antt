-- The rows so far, and those that are left, are the rows.
use Rattle.std.proofs.Common.{◌≡◌, ◌++◌, true, map, drop}
use Rattle.serde_json.specs.View.{items_of}
use Rattle.serde_json.specs.Written.{items_text}
use Rattle.dd_script_write.specs.Answers.{row_tree}
use Rattle.dd_script_write.proofs.surfaces.put_further.Given as goal

abbrev pub invariant-loop-row : goal.invariant-loop-row
invariant-loop-row l =
    l.line.items ++ items_text true (items_of (map row_tree (drop l.row-index l.rows)))
    ≡ l.fn.line.items ++ items_text true (items_of (map row_tree l.rows))
