-- The rows above have no run.
use Rattle.std.proofs.Common.{◌≡◌, ℕ, ◌-◌, ◌<◌, []}
use Rattle.dd_region.specs.Rows.{row_at, ArePassed}
use Rattle.dd_region.proofs.rows.Rows.are_blank.Given as goal

abbrev pub invariant-loop-y : goal.invariant-loop-y
invariant-loop-y l = record {
  blank : (z : ℕ) → z < l.y → row_at l.self z ≡ [];
  passed : ArePassed l.self l.band l.y;
}

abbrev pub decreases-loop-y : goal.decreases-loop-y
decreases-loop-y l = l.height - l.y
