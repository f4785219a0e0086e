use Rattle.dd_board.proofs.Gathering.{each_later}
use Rattle.dd_board.proofs.Copying.{copied_is}
use Rattle.dd_board.proofs.screen.Screen+L.list.Goals as goal

pub returns-in-Made-clause-views : goal.returns-in-Made-clause-views
returns-in-Made-clause-views g c =
    each_later {L = g.row.L.Denot} c.args.seats.items c.gather-share.result.1 c.in-Made.listed.told
    (copied_is _ _ g.L.Named.spec c.gather-share.result.1 c.loop.share.amount _ c.in-Made.is
    c.copied-painter.ensures.copied).1 c.gather-share.ensures.views
