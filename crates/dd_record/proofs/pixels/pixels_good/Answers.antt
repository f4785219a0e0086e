use Rattle.std.proofs.Common.{arith}
use Rattle.dd_record.specs.declared.layout.TheConstants.{PIXEL_BYTES}
use Rattle.dd_record.specs.Grammar.{pixel_at}
use Rattle.dd_record.proofs.Testing.{one_more}
use Rattle.dd_record.proofs.pixels.pixels_good.Goals as goal

pub loop-i-preserved : goal.loop-i-preserved
loop-i-preserved c =
    let before = c.loop-i.invariant in
    record {
      few = omega (arith, c.loop-i-test.true);
      so_far =
          one_more (pixel_at c.args.bytes.now) PIXEL_BYTES c.args.at c.loop-i.i c.in_ok-pixel_at.field-0 before.so_far
          c.in_ok-pixel_at.ensures;
    }
