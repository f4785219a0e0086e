use Rattle.std.proofs.Common.{◌∙◌}
use Rattle.dd_ops.specs.Operations.{drawn_by}
use Rattle.dd_ops.proofs.Fitting.{fits_at, fold_more_by}
use Rattle.dd_ops.proofs.operations.draw_all.Goals as goal

pub draw-requires : goal.draw-requires
draw-requires c =
    rw (c.loop-op.invariant.1.width, c.loop-op.invariant.1.height)
    (fits_at c.args.p.now.width c.args.p.now.height c.args.ops.now c.loop-op.op-index c.op-item.result c.requires
    c.loop-op-test.true c.op-item.is)

pub loop-op-preserved : goal.loop-op-preserved
loop-op-preserved c = (
  c.draw.ensures.drawn
      ∙ fold_more_by drawn_by c.args.p.now c.loop-op.p c.args.ops.now c.loop-op.op-index c.op-item.result
      c.loop-op-test.true c.op-item.is c.loop-op.invariant.0,
  record {
    width = c.draw.ensures.size.width ∙ c.loop-op.invariant.1.width;
    height = c.draw.ensures.size.height ∙ c.loop-op.invariant.1.height;
  },
)
