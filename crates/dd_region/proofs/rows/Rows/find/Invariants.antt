use Rattle.std.proofs.Common.{◌-◌, ◌<◌, ◌≤◌, length}
use Rattle.dd_region.specs.Rows.{ArePassed}
use Rattle.dd_region.proofs.rows.Rows.find.Given as goal

abbrev pub invariant-loop-band : goal.invariant-loop-band
invariant-loop-band l = record {
  passed : ArePassed l.self l.band l.y;
  later : l.from ≤ l.band;
  within : l.band < length l.self.bands.items;
}

abbrev pub decreases-loop-band : goal.decreases-loop-band
decreases-loop-band l = length l.self.bands.items - l.band
