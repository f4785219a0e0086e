-- Whether a cell that the loop has passed is marked.
use Rattle.std.proofs.Common.{◌≡◌, take}
use Rattle.std.specs.List.{list_any}
use Rattle.dd_bits.proofs.tiling.has_marked.Given as goal

abbrev pub invariant-loop-cell : goal.invariant-loop-cell
invariant-loop-cell l = l.some ≡ list_any (λ b. b) (take l.cell-index l.run)
