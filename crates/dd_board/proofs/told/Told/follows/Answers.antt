use Rattle.std.proofs.Common.{arith}
use Rattle.dd_board.proofs.Listed.{listed_few}
use Rattle.dd_board.proofs.told.Told.follows.Goals as goal

pub overflow_add-result : goal.overflow_add-result
overflow_add-result g c =
    let few = listed_few _ _ c.before-2.inside.seen.log c.before-2.invariant.2 in
    omega (arith, few, c.before-2.invariant.0)
