use Rattle.std.proofs.Common.{◌≡◌, true, false}
use Rattle.dd_bits.specs.CanonicalList.{is_marked, HasNone}
use Rattle.dd_bits.proofs.runs.is_blank.Given as goal

abbrev pub invariant-loop-cell : goal.invariant-loop-cell
invariant-loop-cell l = l.some ≡ false → HasNone (is_marked l.row) true 0 l.cell-index
