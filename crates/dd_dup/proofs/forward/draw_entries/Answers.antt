use Rattle.std.proofs.Common.{◌∙◌, sym, ap}
use Rattle.dd_dup.specs.Seen.{seen_shown}
use Rattle.dd_dup.proofs.Covering.{seen-shown}
use Rattle.dd_dup.proofs.forward.draw_entries.Goals as goal

pub returns-then-suits_bands-clause-drawn : goal.returns-then-suits_bands-clause-drawn
returns-then-suits_bands-clause-drawn c p is =
    c.draw_by_bands.ensures.drawn
    ∙ c.drawn_anew-entries.ensures.drawn c.args.surface.now (sym c.width-w.ensures.width)
    (sym c.height-h.ensures.height)
    ∙ ap (λ s. seen_shown s c.args.entries.now) is
    ∙ sym (seen-shown p c.args.entries.now)

pub returns-else-suits_bands-clause-drawn : goal.returns-else-suits_bands-clause-drawn
returns-else-suits_bands-clause-drawn c p is =
    c.draw_in_order.ensures.drawn
    ∙ c.drawn_anew-entries.ensures.drawn c.args.surface.now (sym c.width-w.ensures.width)
    (sym c.height-h.ensures.height)
    ∙ ap (λ s. seen_shown s c.args.entries.now) is
    ∙ sym (seen-shown p c.args.entries.now)
