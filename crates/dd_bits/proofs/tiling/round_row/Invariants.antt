-- The tiles that the loop has passed are rounded.
use Rattle.std.proofs.Common.{◌≡◌, ◌*◌, length}
use Rattle.dd_bits.specs.Rounding.{IsRounded}
use Rattle.dd_bits.proofs.RoundLemmas.{row_before}
use Rattle.dd_bits.proofs.tiling.round_row.Given as goal

abbrev pub invariant-loop-across : goal.invariant-loop-across
invariant-loop-across l =
    record {
      long : length l.cells ≡ l.width * l.height;
      rounded : IsRounded l.width l.height l.t (row_before l.down l.across) l.fn.cells l.cells;
    }
