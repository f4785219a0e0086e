use Rattle.std.proofs.Common.{subst}
use Rattle.std.specs.Prelude.{IsOk}
use Rattle.dd_table.specs.Opening.{opening}
use Rattle.dd_board.specs.Seats.{Seated}
use Rattle.dd_board.specs.Wanting.{MayGrant}
use Rattle.dd_board.proofs.Wanting.{wanted}
use Rattle.dd_board.proofs.screen.Screen+L.open.Goals as goal

pub returns-in-NoMemory-clause-wants : goal.returns-in-NoMemory-clause-wants
returns-in-NoMemory-clause-wants g c =
    subst (λ (s : Seated). MayGrant g.L.Named.spec g.L.Ledger.parts s c.args.step (λ h. IsOk (opening h c.args.app)))
    c.loop.invariant.2 (wanted c.open-painter.result.1 _ c.in-NoMemory.is c.open-painter.ensures.wants)
