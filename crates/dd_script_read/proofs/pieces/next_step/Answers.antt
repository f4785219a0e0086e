use Rattle.dd_script_read.proofs.ByPieces.{step_is_next}
use Rattle.dd_script_read.proofs.pieces.next_step.Goals as goal

pub returns-then-has_numbers-clause-ok : goal.returns-then-has_numbers-clause-ok
returns-then-has_numbers-clause-ok c =
    step_is_next c.args.reader.now c.next_tree.new.reader c.in_ok-tree.tree c.step_of.result c.in_ok-tree.ensures.ok
    c.if-has_numbers.ensures c.step_of.ensures
