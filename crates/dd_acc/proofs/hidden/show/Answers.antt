-- The empty set stays as it is.
use Rattle.std.proofs.Common.{refl}
use Rattle.dd_acc.proofs.Hiding.{show_none}
use Rattle.dd_acc.proofs.hidden.show.Goals as goal

pub returns-then-is_empty-clause-points : goal.returns-then-is_empty-clause-points
returns-then-is_empty-clause-points g c =
    show_none (g.A.Area.points c.args.area.now) c.args.rect (c.if-is_empty.ensures.empty.0 refl)
