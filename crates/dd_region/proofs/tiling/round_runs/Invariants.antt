use Rattle.std.proofs.Common.{◌≡◌, ℕ, ◌*◌, ◌/◌, ◌<◌, ◌≤◌, length, get_or, take}
use Rattle.dd_region.specs.declared.run.Run.{Run}
use Rattle.dd_region.specs.Runs.{in_runs, IsRow, BeginBy}
use Rattle.dd_region.specs.Tiling.{tile_columns}
use Rattle.dd_region.proofs.tiling.round_runs.Given as goal

abbrev pub invariant-loop-run : goal.invariant-loop-run
invariant-loop-run l = record {
  columns : (x : ℕ) → in_runs l.row.items x ≡ tile_columns l.side l.width (in_runs (take l.run-index l.runs)) x;
  row : IsRow l.row.items;
  begin : (k : ℕ) (d : Run) → l.run-index ≤ k → k < length l.runs
      → BeginBy l.row.items ((get_or l.runs k d).left / l.side * l.side);
}
