use Rattle.std.proofs.Common.{◌∙◌, Ok, length, ap}
use Rattle.std.specs.Prelude.{IsOk}
use Rattle.dd_table.specs.Opening.{closing}
use Rattle.dd_board.proofs.Openings.{not_closed, closing_went, closing_is}
use Rattle.dd_board.proofs.Wanting.{may_grant, want_of, ok_is}
use Rattle.dd_board.proofs.opening.Painter+L.close.Goals as goal

pub returns-in-Err-clause-closing : goal.returns-in-Err-clause-closing
returns-in-Err-clause-closing g c =
    closing_is _ _ g.L.Named.spec c.args.actor.now c.refused.new.actor c.args.slot c.args.step c.refused.ensures.done
    (not_closed g.L.Named.spec c.args.actor.now c.refused.new.actor c.args.self c.front-place.result c.args.step
    c.in-Err.cause c.args.slot (c.fits.ensures.0 c.if-not-fits.false).0
    (c.front-place.ensures.length ∙ ap length c.told.ensures) c.refused.ensures.seen
    (c.in-Err.ensures ∙ ap (λ h. closing h c.args.slot) c.log.ensures))

pub returns-clause-closing : goal.returns-clause-closing
returns-clause-closing g c =
    closing_is _ _ g.L.Named.spec c.args.actor.now c.enter-painter.new.actor c.args.slot c.args.step
    c.attempt_of.ensures
    (closing_went c.enter-painter.result.1 g.L.Named.spec c.args.actor.now c.enter-painter.new.actor c.args.self
    c.enter-painter.result.0 c.front-place.result c.number.result c.args.step c.in-Ok.slot c.args.slot
    (c.fits.ensures.0 c.if-not-fits.false).0 (c.front-place.ensures.length ∙ ap length c.told.ensures)
    c.number.ensures.value c.enter-painter.ensures (c.in-Ok.ensures ∙ ap (λ h. closing h c.args.slot) c.log.ensures))

pub returns-clause-wants : goal.returns-clause-wants
returns-clause-wants g c =
    want_of c.enter-painter.result.1 c.front-place.result (Ok c.in-Ok.slot) _ c.attempt_of.result c.attempt_of.ensures
    (may_grant g.L.Named.spec g.L.Ledger.parts c.args.actor.now c.args.step (λ h. IsOk (closing h c.args.slot))
    c.told.result.now c.args.self c.told.ensures c.front-place.ensures.legal c.front-place.ensures.seated
    (c.fits.ensures.0 c.if-not-fits.false)
    (ok_is c.in-Ok.slot _ (c.in-Ok.ensures ∙ ap (λ h. closing h c.args.slot) c.log.ensures)))
