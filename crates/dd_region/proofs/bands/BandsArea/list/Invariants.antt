use Rattle.std.proofs.Common.{◌-◌}
use Rattle.dd_bits.proofs.Bands.{IsListed}
use Rattle.dd_region.specs.Rows.{ArePassed}
use Rattle.dd_region.proofs.bands.BandsArea.list.Given as goal

abbrev pub invariant-loop-y : goal.invariant-loop-y
invariant-loop-y l = record {
  listed : IsListed l.self l.y l.out.items;
  passed : ArePassed l.self-inside.rows l.band l.y;
}

abbrev pub decreases-loop-y : goal.decreases-loop-y
decreases-loop-y l = l.height - l.y
