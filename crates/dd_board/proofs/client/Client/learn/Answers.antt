use Rattle.dd_board.proofs.Standing.{may_hold_later, may_stand}
use Rattle.dd_board.proofs.client.Client.learn.Goals as goal

pub invariant_of-self : goal.invariant_of-self
invariant_of-self g c = (
  c.self.invariant.0,
  may_hold_later c.self.inside.held g.L.Named.spec c.self.inside.actor.view c.learn.new.self.view
      c.learn.ensures.begins c.self.invariant.1,
)

pub returns-clause-stands : goal.returns-clause-stands
returns-clause-stands g c =
    may_stand _ _
    (may_hold_later c.self.inside.held g.L.Named.spec c.self.inside.actor.view c.learn.new.self.view
    c.learn.ensures.begins c.self.invariant.1)
