use Rattle.std.proofs.Common.{◌≡◌, None, subst}
use Rattle.dd_log.specs.History.{refusal}
use Rattle.dd_board.specs.Seats.{Seated}
use Rattle.dd_board.specs.Wanting.{MayGrant}
use Rattle.dd_board.proofs.Wanting.{wanted}
use Rattle.dd_board.proofs.screen.Screen+L.draw_entry.Goals as goal

pub returns-in-NoMemory-clause-wants : goal.returns-in-NoMemory-clause-wants
returns-in-NoMemory-clause-wants g c =
    subst (λ (s : Seated). MayGrant g.L.Named.spec g.L.Ledger.parts s c.args.entry.now.step (λ h. refusal h c.args.entry.now.event ≡ None))
    c.loop.invariant.2 (wanted c.draw-painter.result.1 _ c.in-NoMemory.is c.draw-painter.ensures.wants)
