use Rattle.std.proofs.Common.{◌-◌}
use Rattle.dd_bits.proofs.Bands.{IsListed}
use Rattle.dd_bits.proofs.plane.PlaneArea.list.Given as goal

abbrev pub invariant-loop-y : goal.invariant-loop-y
invariant-loop-y l = IsListed l.self l.y l.out.items

abbrev pub decreases-loop-y : goal.decreases-loop-y
decreases-loop-y l = l.self-inside.height - l.y
