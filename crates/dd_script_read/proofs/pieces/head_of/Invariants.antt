-- The members that are read further come behind those so far.
use Rattle.std.proofs.Common.{length}
use Rattle.dd_script_read.proofs.ByPieces.{MembersAhead}
use Rattle.dd_script_read.proofs.pieces.head_of.Given as goal

abbrev pub invariant-loop-key : goal.invariant-loop-key
invariant-loop-key l = MembersAhead l.initial.reader l.head.items l.reader

abbrev pub decreases-loop-key : goal.decreases-loop-key
decreases-loop-key l = length l.reader
