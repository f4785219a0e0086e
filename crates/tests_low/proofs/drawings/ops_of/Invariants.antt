-- The operations so far fit.
use Rattle.std.proofs.Common.{IsTrue}
use Rattle.dd_ops.specs.Operations.{all_fit}
use Rattle.tests_low.proofs.drawings.ops_of.Given as goal

abbrev pub invariant-loop-draw : goal.invariant-loop-draw
invariant-loop-draw g l = IsTrue (all_fit 4 3 l.ops)
