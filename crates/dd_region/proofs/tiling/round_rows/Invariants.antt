use Rattle.std.proofs.Common.{◌≡◌, ◌-◌, ◌*◌, ◌/◌, ◌<◌, ◌≤◌}
use Rattle.dd_region.specs.Rows.{ArePassed}
use Rattle.dd_region.specs.Tiling.{HasTiles}
use Rattle.dd_region.proofs.tiling.round_rows.Given as goal

abbrev pub invariant-loop-y : goal.invariant-loop-y
invariant-loop-y l = record {
  within : l.y ≤ l.tiles.height;
  start : l.y < l.tiles.height → l.y / l.tiles.side * l.tiles.side ≡ l.y;
  rounded : HasTiles l.tiles.side l.tiles.width l.tiles.height l.old l.y l.new;
  passed : ArePassed l.old l.band l.y;
}

abbrev pub decreases-loop-y : goal.decreases-loop-y
decreases-loop-y l = l.tiles.height - l.y
