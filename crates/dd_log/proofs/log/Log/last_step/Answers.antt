-- The desk has each actor's last step, and past the actors there is none.
use Rattle.std.proofs.Common.{get_or, ap, ◌∙◌}
use Rattle.dd_log.specs.declared.desk.Desk.{Desk}
use Rattle.dd_log.specs.History.{History, last_step}
use Rattle.dd_log.specs.Log.{history}
use Rattle.dd_log.proofs.Legal.{any_step}
use Rattle.dd_log.proofs.log.Log.last_step.Goals as goal

pub returns : goal.returns
returns c =
    c.step_of.ensures ∙ ap (λ (d : Desk). get_or d.steps c.args.actor 0) c.self.invariant.desk
    ∙ any_step (history c.self.inside) c.args.actor c.self.invariant.legal
    ∙ ap (λ (h : History). last_step h.entries c.args.actor) c.self.view_is
