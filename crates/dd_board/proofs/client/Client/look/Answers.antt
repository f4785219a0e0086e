use Rattle.std.proofs.Common.{List, sym, subst}
use mathlib.Core.List.{IsPrefix}
use Rattle.dd_log.specs.declared.events.Entry.{Entry}
use Rattle.dd_log.specs.History.{History}
use Rattle.dd_board.specs.Holding.{MayHold}
use Rattle.dd_board.proofs.Standing.{may_hold_later}
use Rattle.dd_board.proofs.client.Client.look.Goals as goal

pub ask_any-asked-requires : goal.ask_any-asked-requires
ask_any-asked-requires g c =
    subst (λ (h : History). MayHold c.self.inside.held h) (sym c.log.ensures)
    (may_hold_later c.self.inside.held g.L.Named.spec c.self.inside.actor.view c.in-Ok.inside.1
    (subst (λ (l : List Entry). IsPrefix l c.in-Ok.inside.1) c.view.ensures c.in-Ok.ensures.1) c.self.invariant.1)
