use Rattle.std.proofs.Common.{◌≡◌, ℕ, ◌+◌, ◌-◌, ◌<◌, ◌≤◌, length, get_or, take, ◌||◌}
use Rattle.dd_region.specs.declared.run.Run.{Run}
use Rattle.dd_region.specs.Runs.{in_runs, IsRow, BeginBy, in_window, landing}
use Rattle.dd_region.proofs.run.copy_runs.Given as goal

abbrev pub invariant-loop-run : goal.invariant-loop-run
invariant-loop-run l =
    record {
      columns : (x : ℕ) → in_runs l.row.items x
          ≡ (in_runs l.initial.row.items x || in_window l.window (in_runs (take l.run-index l.runs)) x);
      row : IsRow l.row.items;
      begin : (k : ℕ) (d : Run) → l.run-index ≤ k → k < length l.runs
          → BeginBy l.row.items (landing l.window (get_or l.runs k d).left);
      end : BeginBy l.row.items (l.window.to + (l.window.right - l.window.left));
    }
