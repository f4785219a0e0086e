use Rattle.std.proofs.Common.{◌≡◌, ◌∙◌, None, Ok, length, ap}
use Rattle.dd_log.specs.History.{refusal, verdict}
use Rattle.dd_board.proofs.Calls.{none_of_ok}
use Rattle.dd_board.proofs.Painting.{drawing_is, drawing_went, not_drawn}
use Rattle.dd_board.proofs.Wanting.{may_grant, want_of}
use Rattle.dd_board.proofs.painter.Painter+L.draw.Goals as goal

pub returns-in-Err-clause-drawing : goal.returns-in-Err-clause-drawing
returns-in-Err-clause-drawing g c =
    let e = c.args.entry.now in
    drawing_is _ _ g.L.Named.spec c.args.actor.now c.refused.new.actor e c.refused.ensures.done
    (not_drawn g.L.Named.spec c.args.actor.now c.refused.new.actor c.args.self e c.front-place.result c.in-Err.cause
    (c.fits.ensures.0 c.if-not-fits.false).0 (c.front-place.ensures.length ∙ ap length c.told.ensures)
    c.refused.ensures.seen (c.in-Err.ensures ∙ ap (λ h. verdict (refusal h e.event)) c.log.ensures))

pub returns-clause-drawing : goal.returns-clause-drawing
returns-clause-drawing g c =
    let e = c.args.entry.now in
    drawing_is _ _ g.L.Named.spec c.args.actor.now c.enter-painter.new.actor e c.attempt_of.ensures
    (drawing_went c.enter-painter.result.1 g.L.Named.spec c.args.actor.now c.enter-painter.new.actor c.args.self
    c.enter-painter.result.0 e c.front-place.result (c.fits.ensures.0 c.if-not-fits.false).0
    (c.front-place.ensures.length ∙ ap length c.told.ensures) c.enter-painter.ensures
    (c.in_default.ensures ∙ ap (λ h. verdict (refusal h e.event)) c.log.ensures))

pub returns-clause-wants : goal.returns-clause-wants
returns-clause-wants g c =
    let e = c.args.entry.now in
    want_of c.enter-painter.result.1 c.front-place.result (Ok tt) _ c.attempt_of.result c.attempt_of.ensures
    (may_grant g.L.Named.spec g.L.Ledger.parts c.args.actor.now e.step (λ h. refusal h e.event ≡ None)
    c.told.result.now c.args.self c.told.ensures c.front-place.ensures.legal c.front-place.ensures.seated
    (c.fits.ensures.0 c.if-not-fits.false)
    (none_of_ok _ tt (c.in_default.ensures ∙ ap (λ h. verdict (refusal h e.event)) c.log.ensures)))
