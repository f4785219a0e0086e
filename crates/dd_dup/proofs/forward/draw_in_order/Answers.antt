use Rattle.std.proofs.Common.{◌∙◌}
use Rattle.dd_dup.proofs.Covering.{seen_more}
use Rattle.dd_dup.proofs.Entries.{fit_item}
use Rattle.dd_dup.proofs.forward.draw_in_order.Goals as goal

pub draw_event-requires : goal.draw_event-requires
draw_event-requires c =
    rw (c.loop-entry.invariant.1.width, c.loop-entry.invariant.1.height)
    (fit_item c.args.surface.now.width c.args.surface.now.height c.args.entries.now c.loop-entry.entry-index
    c.entry-item.result c.requires c.loop-entry-test.true c.entry-item.is)

pub loop-entry-preserved : goal.loop-entry-preserved
loop-entry-preserved c = (
  c.draw_event.ensures.drawn
      ∙ seen_more c.args.surface.now c.loop-entry.surface c.args.entries.now c.loop-entry.entry-index c.entry-item.result
      c.loop-entry-test.true c.entry-item.is c.loop-entry.invariant.0,
  record {
    width = c.draw_event.ensures.size.width ∙ c.loop-entry.invariant.1.width;
    height = c.draw_event.ensures.size.height ∙ c.loop-entry.invariant.1.height;
  },
)
