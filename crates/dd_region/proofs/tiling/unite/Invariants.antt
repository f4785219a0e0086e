use Rattle.std.proofs.Common.{◌+◌, ◌-◌, length}
use Rattle.dd_region.specs.Tiling.{IsUnited}
use Rattle.dd_region.proofs.tiling.unite.Given as goal

abbrev pub invariant-loop-places : goal.invariant-loop-places
invariant-loop-places l = IsUnited l.first l.second l.places.first l.places.second l.row.items

abbrev pub decreases-loop-places : goal.decreases-loop-places
decreases-loop-places l = length l.first + length l.second - (l.places.first + l.places.second)
