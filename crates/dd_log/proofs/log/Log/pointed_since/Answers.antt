-- The desk's place tells what stands from a place on.
use Rattle.std.proofs.Common.{nat_lt, drop, ap, ◌∙◌}
use Rattle.dd_log.specs.declared.desk.Desk.{Desk}
use Rattle.dd_log.specs.History.{History, any_points}
use Rattle.dd_log.proofs.Desks.{pointed_tells}
use Rattle.dd_log.proofs.log.Log.pointed_since.Goals as goal

pub returns : goal.returns
returns c =
    ap (λ (d : Desk). nat_lt c.args.place d.pointed) c.self.invariant.desk
    ∙ pointed_tells c.self.inside.spec.modes c.self.inside.entries.items c.args.place
    ∙ ap (λ (h : History). any_points (drop c.args.place h.entries)) c.self.view_is
