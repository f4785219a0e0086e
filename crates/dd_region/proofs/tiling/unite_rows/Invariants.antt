use Rattle.std.proofs.Common.{◌≡◌, ℕ, ◌-◌, ◌≤◌}
use Rattle.dd_region.specs.Runs.{in_runs, IsRow}
use Rattle.dd_region.specs.Rows.{ArePassed}
use Rattle.dd_region.specs.Tiling.{columns_between}
use Rattle.dd_region.proofs.tiling.unite_rows.Given as goal

abbrev pub invariant-loop-y : goal.invariant-loop-y
invariant-loop-y l = record {
  from : l.top ≤ l.y;
  within : l.y ≤ l.bottom;
  columns : (x : ℕ) → in_runs l.row.items x ≡ columns_between l.old l.top l.y x;
  row : IsRow l.row.items;
  passed : ArePassed l.old l.band l.y;
}

abbrev pub decreases-loop-y : goal.decreases-loop-y
decreases-loop-y l = l.bottom - l.y
