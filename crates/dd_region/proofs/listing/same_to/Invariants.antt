use Rattle.std.proofs.Common.{◌≡◌, ℕ, ◌-◌, ◌<◌, ◌≤◌}
use Rattle.dd_region.specs.Rows.{row_at, ArePassed}
use Rattle.dd_region.proofs.listing.same_to.Given as goal

abbrev pub invariant-loop-bottom : goal.invariant-loop-bottom
invariant-loop-bottom l = record {
  some : l.y < l.bottom;
  within : l.bottom ≤ l.height;
  same : (z : ℕ) → l.y ≤ z → z < l.bottom → row_at l.rows z ≡ row_at l.rows l.y;
  passed : ArePassed l.rows l.band l.bottom;
}

abbrev pub decreases-loop-bottom : goal.decreases-loop-bottom
decreases-loop-bottom l = l.height - l.bottom
