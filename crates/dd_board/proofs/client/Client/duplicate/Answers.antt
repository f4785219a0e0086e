use Rattle.std.proofs.Common.{◌∙◌}
use Rattle.dd_board.proofs.Clients.{duplicated, opening_wants}
use Rattle.dd_board.proofs.Standing.{may_stand}
use Rattle.dd_board.proofs.Wanting.{on_err}
use Rattle.dd_board.proofs.client.Client.duplicate.Goals as goal

pub invariant_of-self-2 : goal.invariant_of-self-2
invariant_of-self-2 g c = (
  c.self.invariant.0,
  (duplicated g.L.Named.spec c.args.self.now c.self.inside.actor c.open.new.actor c.self.inside.app c.args.step
      c.self.inside.held c.opened-answer.new.held c.self.inside.door c.in_ok-place.place c.front.result
      c.in_ok-place.answer c.opened-answer.result c.again-told.result c.self.view_is c.self.invariant.1
      c.in_ok-place.ensures.opened c.front.ensures.front c.opened-answer.ensures.answer c.opened-answer.ensures.held
      (c.again-told.ensures.same ∙ c.view.ensures)).holds,
)

pub returns-clause-answer : goal.returns-clause-answer
returns-clause-answer g c =
    (duplicated g.L.Named.spec c.args.self.now c.self.inside.actor c.open.new.actor c.self.inside.app c.args.step
    c.self.inside.held c.opened-answer.new.held c.self.inside.door c.in_ok-place.place c.front.result
    c.in_ok-place.answer c.opened-answer.result c.again-told.result c.self.view_is c.self.invariant.1
    c.in_ok-place.ensures.opened c.front.ensures.front c.opened-answer.ensures.answer c.opened-answer.ensures.held
    (c.again-told.ensures.same ∙ c.view.ensures)).answered

pub returns-clause-call : goal.returns-clause-call
returns-clause-call g c =
    (duplicated g.L.Named.spec c.args.self.now c.self.inside.actor c.open.new.actor c.self.inside.app c.args.step
    c.self.inside.held c.opened-answer.new.held c.self.inside.door c.in_ok-place.place c.front.result
    c.in_ok-place.answer c.opened-answer.result c.again-told.result c.self.view_is c.self.invariant.1
    c.in_ok-place.ensures.opened c.front.ensures.front c.opened-answer.ensures.answer c.opened-answer.ensures.held
    (c.again-told.ensures.same ∙ c.view.ensures)).call

pub returns-clause-memory : goal.returns-clause-memory
returns-clause-memory g c =
    (duplicated g.L.Named.spec c.args.self.now c.self.inside.actor c.open.new.actor c.self.inside.app c.args.step
    c.self.inside.held c.opened-answer.new.held c.self.inside.door c.in_ok-place.place c.front.result
    c.in_ok-place.answer c.opened-answer.result c.again-told.result c.self.view_is c.self.invariant.1
    c.in_ok-place.ensures.opened c.front.ensures.front c.opened-answer.ensures.answer c.opened-answer.ensures.held
    (c.again-told.ensures.same ∙ c.view.ensures)).memory

pub returns-clause-stands : goal.returns-clause-stands
returns-clause-stands g c =
    may_stand _ _
    (duplicated g.L.Named.spec c.args.self.now c.self.inside.actor c.open.new.actor c.self.inside.app c.args.step
    c.self.inside.held c.opened-answer.new.held c.self.inside.door c.in_ok-place.place c.front.result
    c.in_ok-place.answer c.opened-answer.result c.again-told.result c.self.view_is c.self.invariant.1
    c.in_ok-place.ensures.opened c.front.ensures.front c.opened-answer.ensures.answer c.opened-answer.ensures.held
    (c.again-told.ensures.same ∙ c.view.ensures)).holds

pub returns-in_err-place-clause-wants : goal.returns-in_err-place-clause-wants
returns-in_err-place-clause-wants g c =
    on_err c.from_residual.result _
    (opening_wants g.L.Named.spec g.L.Ledger.parts c.args.self.now c.self.inside.actor c.self.inside.app c.args.step
    c.self.inside.held c.self.inside.door c.self.view_is c.in_err-place.ensures.wants)
