use Rattle.dd_bits.specs.CanonicalList.{is_marked, HasNone}
use Rattle.dd_bits.proofs.runs.find.Given as goal

abbrev pub invariant-loop-x : goal.invariant-loop-x
invariant-loop-x l = HasNone (is_marked l.row) l.marked l.from l.x
