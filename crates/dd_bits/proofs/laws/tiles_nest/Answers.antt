use Rattle.dd_bits.proofs.TileLemmas.{tiles-tiles}
use Rattle.dd_bits.proofs.laws.tiles_nest.Goals as goal

pub returns : goal.returns
returns c = tiles-tiles
