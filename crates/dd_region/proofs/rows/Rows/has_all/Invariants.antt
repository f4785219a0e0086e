-- The rows above have all columns between the sides.
use Rattle.std.proofs.Common.{◌≡◌, ℕ, ◌-◌, ◌<◌, ◌≤◌, true}
use Rattle.dd_region.specs.Rows.{has_point, ArePassed}
use Rattle.dd_region.proofs.rows.Rows.has_all.Given as goal

abbrev pub invariant-loop-y : goal.invariant-loop-y
invariant-loop-y l = record {
  all : (x z : ℕ) → l.sides.left ≤ x → x < l.sides.right → l.sides.top ≤ z → z < l.y → has_point l.self x z ≡ true;
  passed : ArePassed l.self l.band l.y;
}

abbrev pub decreases-loop-y : goal.decreases-loop-y
decreases-loop-y l = l.sides.bottom - l.y
