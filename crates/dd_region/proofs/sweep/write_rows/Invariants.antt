use Rattle.std.proofs.Common.{◌-◌, ◌≤◌}
use Rattle.dd_region.specs.Rows.{ArePassed}
use Rattle.dd_region.specs.Sweep.{HasPatch, IsSourcePassed}
use Rattle.dd_region.proofs.sweep.write_rows.Given as goal

abbrev pub invariant-loop-y : goal.invariant-loop-y
invariant-loop-y l = record {
  from : l.patch.sides.top ≤ l.y;
  within : l.y ≤ l.patch.sides.bottom;
  written : HasPatch l.patch l.old l.y l.new;
  passed : ArePassed l.old l.band l.y;
  source : IsSourcePassed l.patch.inside l.patch.sides l.old l.source l.y;
}

abbrev pub decreases-loop-y : goal.decreases-loop-y
decreases-loop-y l = l.patch.sides.bottom - l.y
