-- The rows of tiles that the loop has passed are rounded.
use Rattle.std.proofs.Common.{◌≡◌, ◌*◌, length}
use Rattle.dd_bits.specs.Rounding.{IsRounded}
use Rattle.dd_bits.proofs.RoundLemmas.{rows_before}
use Rattle.dd_bits.proofs.tiling.round_to_tiles.Given as goal

abbrev pub invariant-loop-down : goal.invariant-loop-down
invariant-loop-down l =
    record {
      long : length l.cells ≡ l.width * l.height;
      rounded : IsRounded l.width l.height l.t (rows_before l.down) l.fn.cells l.cells;
    }
