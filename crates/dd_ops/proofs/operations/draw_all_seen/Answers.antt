use Rattle.std.proofs.Common.{◌∙◌}
use Rattle.dd_ops.specs.Operations.{seen_drawn_by}
use Rattle.dd_ops.proofs.Fitting.{fits_at, fold_more_by}
use Rattle.dd_ops.proofs.operations.draw_all_seen.Goals as goal

pub draw_seen-requires : goal.draw_seen-requires
draw_seen-requires c =
    rw (c.loop-op.invariant.1.width, c.loop-op.invariant.1.height)
    (fits_at c.args.s.now.width c.args.s.now.height c.args.ops.now c.loop-op.op-index c.op-item.result c.requires
    c.loop-op-test.true c.op-item.is)

pub loop-op-preserved : goal.loop-op-preserved
loop-op-preserved c = (
  c.draw_seen.ensures.drawn
      ∙ fold_more_by seen_drawn_by c.args.s.now c.loop-op.s c.args.ops.now c.loop-op.op-index c.op-item.result
      c.loop-op-test.true c.op-item.is c.loop-op.invariant.0,
  record {
    width = c.draw_seen.ensures.size.width ∙ c.loop-op.invariant.1.width;
    height = c.draw_seen.ensures.size.height ∙ c.loop-op.invariant.1.height;
  },
)
