-- Runs of columns, and rows of a set as lists of them.
use Rattle.std.specs.Prelude.{ℕ, ◌+◌, ◌-◌, ◌<◌, ◌≤◌, min, max, List, Bool, ◌&&◌, nat_le, nat_lt, All}
use Rattle.std.specs.List.{list_any, AllPairs}
use Rattle.dd_region.specs.declared.run.Run.{Run}
use Rattle.dd_region.specs.declared.run.Window.{Window}

-- the columns of a run
abbrev pub in_run : Run → ℕ → Bool
in_run r x = nat_le r.left x && nat_lt x r.right

-- the columns of some of the runs
abbrev pub in_runs : List Run → ℕ → Bool
in_runs rs x = list_any (λ r. in_run r x) rs

-- runs from left to right, none of them empty, and no two of them touching
pub record IsRow (rs : List Run) : Type 0 where
  pub some : All (λ r. r.left < r.right) rs
  pub apart : AllPairs (λ r s. r.right < s.left) rs

-- no run begins to the right of column x
abbrev pub BeginBy : List Run → ℕ → Type 0
BeginBy rs x = All (λ r. r.left ≤ x) rs

-- the columns that a window shows of a row, where it puts them
abbrev pub in_window : Window → (ℕ → Bool) → ℕ → Bool
in_window w row x = nat_le w.to x && nat_lt x (w.to + (w.right - w.left)) && row (x + w.left - w.to)

-- where a window puts a column; those before its left side come to that side, those past its right one to that one
abbrev pub landing : Window → ℕ → ℕ
landing w x = min (max x w.left) w.right - w.left + w.to
