use Rattle.std.proofs.Common.{◌∙◌, ◌+◌, sym, ap, subst}
use Rattle.dd_log.specs.History.{History, allowed}
use Rattle.dd_station.specs.Run.{State, draw_outcome}
use Rattle.dd_station.specs.Station.{state, IsKept}
use Rattle.dd_station.proofs.Kept.{kept_draw}
use Rattle.dd_station.proofs.station.Station.draw.Goals as goal

pub invariant_of-self-2 : goal.invariant_of-self-2
invariant_of-self-2 c =
    subst (λ (h : History). IsKept h c.self.inside.clients.items c.self.inside.dups.items (c.self.inside.steps + 1))
    (sym c.in_ok-answer.ensures.list)
    (kept_draw (allowed c.self.inside.log c.args.drawing.now) c.self.inside.log 0 c.self.inside.steps
    c.args.drawing.now c.self.inside.clients.items c.self.inside.dups.items c.self.invariant)

pub returns-clause-answer : goal.returns-clause-answer
returns-clause-answer c = c.in_ok-answer.ensures.answer
    ∙ ap (λ (s : State). (draw_outcome s c.args.drawing.now).0) c.self.view_is

pub returns-clause-state : goal.returns-clause-state
returns-clause-state c =
    ap (λ (h : History). state h c.self.inside.clients.items c.self.inside.dups.items (c.self.inside.steps + 1))
    c.in_ok-answer.ensures.list
    ∙ ap (λ (s : State). (draw_outcome s c.args.drawing.now).1) c.self.view_is
