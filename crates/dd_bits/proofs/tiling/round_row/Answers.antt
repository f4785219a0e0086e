-- Each tile begins inside, and is one more.
use Rattle.std.proofs.Common.{arith}
use Rattle.dd_bits.proofs.RoundLemmas.{tile_begins, row_before-more, row_before-all}
use Rattle.dd_bits.proofs.tiling.round_row.Goals as goal

pub round_tile-requires-clause-across : goal.round_tile-requires-clause-across
round_tile-requires-clause-across c =
    tile_begins c.args.width c.args.t _ c.loop-across.across c.requires.side c.div_ceil-across-end.ensures
    c.loop-across-test.true

pub loop-across-preserved : goal.loop-across-preserved
loop-across-preserved c =
    record {
      long = omega arith;
      rounded =
          row_before-more c.args.width c.args.height c.args.t c.args.down c.loop-across.across c.args.cells.now
          c.loop-across.cells c.round_tile.new.cells c.requires.side c.loop-across.invariant.rounded
          c.round_tile.ensures;
    }

pub returns : goal.returns
returns c =
    row_before-all c.args.width c.args.height c.args.t c.args.down c.loop-across.across c.args.cells.now
    c.loop-across.cells c.requires.side (omega (arith, c.div_ceil-across-end.ensures))
    c.loop-across.invariant.rounded
