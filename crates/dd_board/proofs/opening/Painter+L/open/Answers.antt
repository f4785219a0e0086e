use Rattle.std.proofs.Common.{◌∙◌, Ok, length, ap, subst}
use Rattle.std.specs.Prelude.{IsOk}
use Rattle.dd_table.specs.Opening.{opening}
use Rattle.dd_dup.specs.Reply.{fresh_memory}
use Rattle.dd_dup.specs.Stands.{StandsOnceOpened}
use Rattle.dd_log.specs.History.{History}
use Rattle.dd_board.specs.declared.holding.Holding.{Holding}
use Rattle.dd_board.proofs.Openings.{not_opened, opening_went, opening_is}
use Rattle.dd_board.proofs.Wanting.{may_grant, want_of, ok_is}
use Rattle.dd_board.proofs.opening.Painter+L.open.Goals as goal

pub returns-in-Err-clause-opening : goal.returns-in-Err-clause-opening
returns-in-Err-clause-opening g c =
    opening_is _ _ g.L.Named.spec c.args.actor.now c.refused.new.actor c.args.app c.args.step c.refused.ensures.done
    (not_opened g.L.Named.spec c.args.actor.now c.refused.new.actor c.args.self c.front-place.result c.args.app
    c.args.step c.in-Err.cause (c.fits.ensures.0 c.if-not-fits.false).0
    (c.front-place.ensures.length ∙ ap length c.told.ensures) c.refused.ensures.seen
    (c.in-Err.ensures.value ∙ ap (λ h. opening h c.args.app) c.log.ensures))

pub returns-clause-opening : goal.returns-clause-opening
returns-clause-opening g c =
    let x : Holding = record { dup = c.in-Ok-start.dup; slot = c.in-Ok.slot } in
    opening_is _ _ g.L.Named.spec c.args.actor.now c.enter-painter.new.actor c.args.app c.args.step
    c.attempt_of.ensures
    (opening_went c.enter-painter.result.1 g.L.Named.spec c.args.actor.now c.enter-painter.new.actor c.args.self
    c.enter-painter.result.0 c.front-place.result c.number.result c.args.app c.args.step x
    (c.fits.ensures.0 c.if-not-fits.false).0 (c.front-place.ensures.length ∙ ap length c.told.ensures)
    c.number.ensures.value c.enter-painter.ensures
    (c.in-Ok.ensures.value ∙ ap (λ h. opening h c.args.app) c.log.ensures)
    (c.in-Ok-start.ensures.memory ∙ ap (λ h. fresh_memory h c.front-place.result) c.log-2.ensures)
    (subst (λ (h : History). StandsOnceOpened c.in-Ok-start.dup h) c.log-2.ensures c.in-Ok-start.ensures.stands))

pub returns-in_default-clause-wants : goal.returns-in_default-clause-wants
returns-in_default-clause-wants g c =
    may_grant g.L.Named.spec g.L.Ledger.parts c.args.actor.now c.args.step (λ h. IsOk (opening h c.args.app))
    c.told.result.now c.args.self c.told.ensures c.front-place.ensures.legal c.front-place.ensures.seated
    (c.fits.ensures.0 c.if-not-fits.false)
    (ok_is c.in-Ok.slot _ (c.in-Ok.ensures.value ∙ ap (λ h. opening h c.args.app) c.log.ensures))

pub returns-clause-wants : goal.returns-clause-wants
returns-clause-wants g c =
    let x : Holding = record { dup = c.in-Ok-start.dup; slot = c.in-Ok.slot } in
    want_of c.enter-painter.result.1 c.front-place.result (Ok x) _ c.attempt_of.result c.attempt_of.ensures
    (may_grant g.L.Named.spec g.L.Ledger.parts c.args.actor.now c.args.step (λ h. IsOk (opening h c.args.app))
    c.told.result.now c.args.self c.told.ensures c.front-place.ensures.legal c.front-place.ensures.seated
    (c.fits.ensures.0 c.if-not-fits.false)
    (ok_is c.in-Ok.slot _ (c.in-Ok.ensures.value ∙ ap (λ h. opening h c.args.app) c.log.ensures)))
