use Rattle.std.proofs.Common.{◌∙◌}
use Rattle.dd_board.proofs.Clients.{closed_by, closing_wants}
use Rattle.dd_board.proofs.Standing.{may_stand}
use Rattle.dd_board.proofs.Wanting.{on_err}
use Rattle.dd_board.proofs.client.Client.close.Goals as goal

pub invariant_of-self-2 : goal.invariant_of-self-2
invariant_of-self-2 g c = (
  c.self.invariant.0,
  (closed_by g.L.Named.spec c.args.self.now c.self.inside.actor c.close.new.actor c.self.inside.app c.args.step
      c.self.inside.held c.closed-answer.new.held c.self.inside.door c.in_ok-place.place c.front.result
      c.in_ok-place.answer c.closed-answer.result c.again-told.result c.slot_held-slot.result c.self.view_is
      c.self.invariant.1 c.slot_held-slot.ensures c.in_ok-place.ensures.closed c.front.ensures.front
      c.closed-answer.ensures.answer c.closed-answer.ensures.held (c.again-told.ensures.same ∙ c.view.ensures)).holds,
)

pub returns-clause-answer : goal.returns-clause-answer
returns-clause-answer g c =
    (closed_by g.L.Named.spec c.args.self.now c.self.inside.actor c.close.new.actor c.self.inside.app c.args.step
    c.self.inside.held c.closed-answer.new.held c.self.inside.door c.in_ok-place.place c.front.result
    c.in_ok-place.answer c.closed-answer.result c.again-told.result c.slot_held-slot.result c.self.view_is
    c.self.invariant.1 c.slot_held-slot.ensures c.in_ok-place.ensures.closed c.front.ensures.front
    c.closed-answer.ensures.answer c.closed-answer.ensures.held (c.again-told.ensures.same ∙ c.view.ensures)).answered

pub returns-clause-call : goal.returns-clause-call
returns-clause-call g c =
    (closed_by g.L.Named.spec c.args.self.now c.self.inside.actor c.close.new.actor c.self.inside.app c.args.step
    c.self.inside.held c.closed-answer.new.held c.self.inside.door c.in_ok-place.place c.front.result
    c.in_ok-place.answer c.closed-answer.result c.again-told.result c.slot_held-slot.result c.self.view_is
    c.self.invariant.1 c.slot_held-slot.ensures c.in_ok-place.ensures.closed c.front.ensures.front
    c.closed-answer.ensures.answer c.closed-answer.ensures.held (c.again-told.ensures.same ∙ c.view.ensures)).call

pub returns-clause-dup : goal.returns-clause-dup
returns-clause-dup g c =
    (closed_by g.L.Named.spec c.args.self.now c.self.inside.actor c.close.new.actor c.self.inside.app c.args.step
    c.self.inside.held c.closed-answer.new.held c.self.inside.door c.in_ok-place.place c.front.result
    c.in_ok-place.answer c.closed-answer.result c.again-told.result c.slot_held-slot.result c.self.view_is
    c.self.invariant.1 c.slot_held-slot.ensures c.in_ok-place.ensures.closed c.front.ensures.front
    c.closed-answer.ensures.answer c.closed-answer.ensures.held (c.again-told.ensures.same ∙ c.view.ensures)).dup

pub returns-clause-stands : goal.returns-clause-stands
returns-clause-stands g c =
    may_stand _ _
    (closed_by g.L.Named.spec c.args.self.now c.self.inside.actor c.close.new.actor c.self.inside.app c.args.step
    c.self.inside.held c.closed-answer.new.held c.self.inside.door c.in_ok-place.place c.front.result
    c.in_ok-place.answer c.closed-answer.result c.again-told.result c.slot_held-slot.result c.self.view_is
    c.self.invariant.1 c.slot_held-slot.ensures c.in_ok-place.ensures.closed c.front.ensures.front
    c.closed-answer.ensures.answer c.closed-answer.ensures.held (c.again-told.ensures.same ∙ c.view.ensures)).holds

pub returns-in_err-place-clause-wants : goal.returns-in_err-place-clause-wants
returns-in_err-place-clause-wants g c =
    on_err c.from_residual.result _
    (closing_wants g.L.Named.spec g.L.Ledger.parts c.args.self.now c.self.inside.actor c.self.inside.app c.args.step
    c.self.inside.held c.self.inside.door c.slot_held-slot.result c.self.view_is c.self.invariant.1
    c.slot_held-slot.ensures c.in_err-place.ensures.wants)
