use Rattle.dd_region.proofs.TileRows.{IsTilesEnd-max}
use Rattle.dd_region.proofs.tiling.tiles_end.Goals as goal

pub returns : goal.returns
returns c =
    IsTilesEnd-max c.args.tiles.side c.args.tiles.height c.args.top c.args.same_to c.min-one.result c.max.result
    c.requires.side c.requires.top c.requires.start c.requires.within c.min-one.ensures c.max.ensures
