use Rattle.std.proofs.Common.{◌∙◌, ◌+◌, refl, arith}
use Rattle.dd_dup.proofs.Fills.{bands_none, bands_more, bands_all}
use Rattle.dd_dup.proofs.bands.draw_by_bands.Goals as goal

pub loop-top-init : goal.loop-top-init
loop-top-init c = (
  bands_none c.args.surface.now c.args.entries.now c.height-height.ensures.surface.whole,
  omega arith,
  record { width = refl; height = refl },
)

pub loop-top-preserved : goal.loop-top-preserved
loop-top-preserved c = (
  bands_more c.args.surface.now c.loop-top.surface c.draw_band.new.surface c.args.entries.now c.loop-top.top
      (c.loop-top.top + c.min.result) c.rows_between.result c.rows_between.ensures (omega arith) c.loop-top.invariant.0 c.draw_band.ensures.drawn,
  grind (arith, c.min.ensures, c.loop-top-test.true),
  record {
    width = c.draw_band.ensures.size.width ∙ c.loop-top.invariant.2.width;
    height = c.draw_band.ensures.size.height ∙ c.loop-top.invariant.2.height;
  },
)

pub returns-clause-drawn : goal.returns-clause-drawn
returns-clause-drawn c =
    bands_all c.args.surface.now c.loop-top.surface c.args.entries.now c.loop-top.top
    c.height-height.ensures.surface.whole c.requires.fill
    (omega (arith, c.height-height.ensures.height, c.loop-top-test.false)) c.loop-top.invariant.0
