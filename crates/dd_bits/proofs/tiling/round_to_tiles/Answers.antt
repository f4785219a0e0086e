-- Each row of tiles begins inside, and is one more.
use Rattle.std.proofs.Common.{arith}
use Rattle.dd_bits.proofs.RoundLemmas.{tile_begins, rows_before-more, rows_before-all}
use Rattle.dd_bits.proofs.tiling.round_to_tiles.Goals as goal

pub round_row-requires-clause-down : goal.round_row-requires-clause-down
round_row-requires-clause-down c =
    tile_begins c.args.height c.args.t _ c.loop-down.down c.requires.side c.div_ceil-down-end.ensures
    c.loop-down-test.true

pub loop-down-preserved : goal.loop-down-preserved
loop-down-preserved c =
    record {
      long = omega arith;
      rounded =
          rows_before-more c.args.width c.args.height c.args.t c.loop-down.down c.args.cells.now
          c.loop-down.cells c.round_row.new.cells c.requires.side c.loop-down.invariant.rounded
          c.round_row.ensures;
    }

pub returns : goal.returns
returns c =
    rows_before-all c.args.width c.args.height c.args.t c.loop-down.down c.args.cells.now
    c.loop-down.cells c.requires.side (omega (arith, c.div_ceil-down-end.ensures))
    c.loop-down.invariant.long c.loop-down.invariant.rounded
