-- The piece that goes past the limit, and the piece for which there was no memory.
use Rattle.std.proofs.Common.{arith}
use Rattle.dd_io.specs.declared.transfer.TheConstants.{CHUNK}
use Rattle.dd_io.proofs.Pieces.{GivesAtMost-piece, GivesMoreThan-piece}
use Rattle.dd_io.proofs.transfer.read_up_to.Goals as goal

pub returns-then-limit-len-clause-too_long : goal.returns-then-limit-len-clause-too_long
returns-then-limit-len-clause-too_long g c =
    let bytes = c.loop-bytes.bytes in
    let read = rw c.in-Some.is at c.in_ok-piece.ensures.gives in
    λ _. GivesMoreThan-piece _ _ _ bytes.items c.in-Some.piece.now bytes.len c.args.limit CHUNK
    c.loop-bytes.invariant.given read.0 (omega arith) (omega arith) (omega (arith, read.2)) (omega arith)

pub returns-in_err-extend_from_slice-clause-out_of_memory_within :
    goal.returns-in_err-extend_from_slice-clause-out_of_memory_within
returns-in_err-extend_from_slice-clause-out_of_memory_within g c =
    let bytes = c.loop-bytes.bytes in
    let read = rw c.in-Some.is at c.in_ok-piece.ensures.gives in
    λ _. GivesAtMost-piece _ _ _ bytes.items c.in-Some.piece.now bytes.len c.args.limit
    c.loop-bytes.invariant.given read.0 (omega arith) (omega arith) (omega arith)
