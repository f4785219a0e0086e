use Rattle.std.proofs.Common.{◌∙◌, refl}
use Rattle.dd_dup.specs.Filling.{has_row}
use Rattle.dd_dup.proofs.Fills.{nothing_drawn, ops_more}
use Rattle.dd_dup.proofs.bands.draw_parts.Goals as goal

pub loop-op-init : goal.loop-op-init
loop-op-init c =
    (nothing_drawn c.args.surface.now (has_row c.args.rows), record { width = refl; height = refl })

pub loop-op-preserved : goal.loop-op-preserved
loop-op-preserved c = (
  λ whole.
      ops_more c.args.surface.now c.loop-op.surface c.draw_part.new.surface (has_row c.args.rows) c.args.ops.now
      c.loop-op.op-index c.op-item.result c.loop-op-test.true c.op-item.is (c.loop-op.invariant.0 whole)
      c.draw_part.ensures.drawn,
  record {
    width = c.draw_part.ensures.size.width ∙ c.loop-op.invariant.1.width;
    height = c.draw_part.ensures.size.height ∙ c.loop-op.invariant.1.height;
  },
)
