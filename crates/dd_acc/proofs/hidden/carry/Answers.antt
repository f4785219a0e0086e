-- The empty set stays as it is.
use Rattle.std.proofs.Common.{refl}
use Rattle.dd_acc.proofs.Hiding.{carry_none}
use Rattle.dd_acc.proofs.hidden.carry.Goals as goal

pub returns-then-is_empty-clause-points : goal.returns-then-is_empty-clause-points
returns-then-is_empty-clause-points g c =
    carry_none (g.A.Area.points c.args.area.now) c.args.mv (c.if-is_empty.ensures.empty.0 refl)
