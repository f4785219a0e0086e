use Rattle.std.proofs.Common.{◌∙◌, refl}
use Rattle.dd_dup.specs.Filling.{has_row}
use Rattle.dd_dup.proofs.Entries.{fit_item}
use Rattle.dd_dup.proofs.Fills.{nothing_drawn, entries_more}
use Rattle.dd_dup.proofs.bands.draw_band.Goals as goal

pub loop-entry-init : goal.loop-entry-init
loop-entry-init c =
    (nothing_drawn c.args.surface.now (has_row c.args.rows), record { width = refl; height = refl })

pub draw_event_part-requires : goal.draw_event_part-requires
draw_event_part-requires c =
    rw (c.loop-entry.invariant.1.width, c.loop-entry.invariant.1.height)
    (fit_item c.args.surface.now.width c.args.surface.now.height c.args.entries.now c.loop-entry.entry-index
    c.entry-item.result c.requires c.loop-entry-test.true c.entry-item.is)

pub loop-entry-preserved : goal.loop-entry-preserved
loop-entry-preserved c = (
  λ whole.
      entries_more c.args.surface.now c.loop-entry.surface c.draw_event_part.new.surface (has_row c.args.rows)
      c.args.entries.now c.loop-entry.entry-index c.entry-item.result c.loop-entry-test.true c.entry-item.is
      (c.loop-entry.invariant.0 whole) c.draw_event_part.ensures.drawn,
  record {
    width = c.draw_event_part.ensures.size.width ∙ c.loop-entry.invariant.1.width;
    height = c.draw_event_part.ensures.size.height ∙ c.loop-entry.invariant.1.height;
  },
)
