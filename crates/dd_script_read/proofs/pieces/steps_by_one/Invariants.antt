-- The steps that are read further come behind those so far.
use Rattle.std.proofs.Common.{length}
use Rattle.dd_script_read.proofs.ByPieces.{StepsAhead}
use Rattle.dd_script_read.proofs.pieces.steps_by_one.Given as goal

abbrev pub invariant-loop-alloc : goal.invariant-loop-alloc
invariant-loop-alloc l = StepsAhead l.initial.reader l.steps.items l.reader

abbrev pub decreases-loop-alloc : goal.decreases-loop-alloc
decreases-loop-alloc l = length l.reader
