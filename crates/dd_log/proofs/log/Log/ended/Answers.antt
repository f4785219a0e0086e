-- The desk knows whether the end is among the entries.
use Rattle.std.proofs.Common.{ap, ◌∙◌}
use Rattle.dd_log.specs.declared.desk.Desk.{Desk}
use Rattle.dd_log.specs.History.{History, any_ends}
use Rattle.dd_log.proofs.Desks.{ended_tells}
use Rattle.dd_log.proofs.log.Log.ended.Goals as goal

pub returns-clause-plain : goal.returns-clause-plain
returns-clause-plain c =
    ap (λ (d : Desk). d.ended) c.self.invariant.desk
    ∙ ended_tells c.self.inside.spec.modes c.self.inside.entries.items
    ∙ ap (λ (h : History). any_ends h.entries) c.self.view_is
