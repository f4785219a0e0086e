use Rattle.std.proofs.Common.{◌∙◌, ap, Bool}
use Rattle.dd_geom.specs.Grid.{Grid}
use Rattle.dd_grid.specs.Drawing.{hidden_points}
use Rattle.dd_log.specs.Picture.{shown}
use Rattle.dd_dup.specs.Walk.{news_from}
use Rattle.dd_dup.proofs.Entries.{gathered_news}
use Rattle.dd_dup.proofs.news.tell.Goals as goal

pub returns : goal.returns
returns c p is =
    c.news_from.ensures
    ∙ ap (λ (g : Grid Bool). news_from c.args.last_present g c.in_ok-acc.acc) (c.in_ok-after.ensures p is)
    ∙ gathered_news c.args.mode.width c.args.mode.height c.args.last_present
    (hidden_points (shown p c.args.entries.now)) c.args.entries.now c.in_ok-acc.acc c.in_ok-acc.ensures
