use Rattle.dd_region.proofs.TileRuns.{round_columns}
use Rattle.dd_region.proofs.tiling.round.Goals as goal

pub returns-clause-columns : goal.returns-clause-columns
returns-clause-columns c x =
    round_columns c.args.side c.args.width c.args.run c.min.result x c.requires.side c.requires.some c.requires.within
    c.min.ensures
