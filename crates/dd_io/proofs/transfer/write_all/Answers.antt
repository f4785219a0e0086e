-- What a failed call leaves, and one more piece.
use Rattle.std.proofs.Common.{◌++◌, take, arith}
use Rattle.std.proofs.KnownBytes.{Appends-trans}
use Rattle.std.proofs.lemmas.Grind.{common_steps}
use Rattle.std.proofs.lemmas.Result.{err_from_is_err_and}
use Rattle.dd_io.proofs.Pieces.{AppendsPrefix-kept}
use Rattle.dd_io.proofs.transfer.write_all.Goals as goal

pub returns-in_err-n-clause-prefix : goal.returns-in_err-n-clause-prefix
returns-in_err-n-clause-prefix g c =
    let p = err_from_is_err_and c.from_residual.result c.from_residual.ensures.1 in
    let before = c.loop-rest.invariant in
    let kept = c.in_err-n.ensures.failed_keeps in
    rw p.1 (AppendsPrefix-kept _ _ _ _ before.done c.loop-rest.rest.now before.whole before.appended kept)

pub loop-rest-preserved : goal.loop-rest-preserved
loop-rest-preserved g c =
    let before = c.loop-rest.invariant in
    record {
      done = before.done ++ take c.in_ok-n.n c.loop-rest.rest.now;
      whole = grind (arith, common_steps);
      appended = Appends-trans _ _ _ _ _ before.appended c.in_ok-n.ensures.appends;
      later = omega (arith, c.in_ok-n.ensures.later);
    }
