-- The set is rounded by the powers so far, none of which was enough.
use Rattle.std.proofs.Common.{◌≡◌, ◌-◌, ◌≤◌}
use Rattle.dd_bits.specs.CanonicalList.{canonical_list}
use Rattle.dd_coal.specs.declared.coalescing.TheConstants.{MAX_POWER}
use Rattle.dd_coal.specs.Power.{rounded_to}
use Rattle.dd_coal.proofs.Least.{NoneShort}
use Rattle.dd_coal.proofs.coalescing.coalesce.Given as goal

abbrev pub invariant-loop-power : goal.invariant-loop-power
invariant-loop-power g l =
    record {
      area : g.A.Area.points l.area ≡ rounded_to l.power (g.A.Area.points l.fn.area);
      rects : l.rects ≡ canonical_list (g.A.Area.points l.area);
      none : NoneShort (g.A.Area.points l.fn.area) 0 l.power;
      bound : l.power ≤ MAX_POWER;
    }

abbrev pub decreases-loop-power : goal.decreases-loop-power
decreases-loop-power g l = MAX_POWER - l.power
