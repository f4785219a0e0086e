-- The desk's place is the number of the last entry from a place on, where there is one.
use Rattle.std.proofs.Common.{nat_lt, drop, ap, ◌∙◌, if◌then◌else◌}
use Rattle.dd_log.specs.declared.desk.Desk.{Desk}
use Rattle.dd_log.specs.History.{History, last_present}
use Rattle.dd_log.proofs.Desks.{last_present_tells}
use Rattle.dd_log.proofs.log.Log.last_present.Goals as goal

pub returns : goal.returns
returns c =
    c.since.ensures
    ∙ ap (λ (d : Desk). if nat_lt c.args.place d.presented then d.presented else 0) c.self.invariant.desk
    ∙ last_present_tells c.self.inside.spec.modes c.self.inside.entries.items c.args.place
    ∙ ap (λ (h : History). last_present c.args.place (drop c.args.place h.entries)) c.self.view_is
