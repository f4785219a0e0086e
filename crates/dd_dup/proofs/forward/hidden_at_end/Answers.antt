use Rattle.std.proofs.Common.{◌∙◌, take, ap, refl}
use Rattle.dd_grid.specs.Drawing.{hidden_points}
use Rattle.dd_log.specs.Picture.{shown}
use Rattle.dd_dup.proofs.Entries.{fit_item, shown_more}
use Rattle.dd_dup.proofs.forward.hidden_at_end.Goals as goal

pub hide_event-requires : goal.hide_event-requires
hide_event-requires c =
    rw (c.loop-entry.invariant.1.width, c.loop-entry.invariant.1.height)
    (fit_item c.args.hidden.now.width c.args.hidden.now.height c.args.entries.now c.loop-entry.entry-index
    c.entry-item.result c.requires c.loop-entry-test.true c.entry-item.is)

pub loop-entry-preserved : goal.loop-entry-preserved
loop-entry-preserved c = (
  λ p is.
      c.in_ok-hide_event.ensures.hidden (shown p (take c.loop-entry.entry-index c.args.entries.now))
      (c.loop-entry.invariant.0 p is)
      ∙ ap hidden_points
      (shown_more p _ c.args.entries.now c.loop-entry.entry-index c.entry-item.result c.loop-entry-test.true
      c.entry-item.is refl),
  record {
    width = c.in_ok-hide_event.ensures.size.width ∙ c.loop-entry.invariant.1.width;
    height = c.in_ok-hide_event.ensures.size.height ∙ c.loop-entry.invariant.1.height;
  },
)
