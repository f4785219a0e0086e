use Rattle.std.proofs.Common.{ap, ◌∙◌}
use Rattle.dd_geom.specs.Grid.{grid}
use Rattle.dd_region.specs.declared.rows.Rows.{Rows}
use Rattle.dd_region.specs.Rows.{has_point}
use Rattle.dd_region.proofs.KeptLemmas.{tiles_grid}
use Rattle.dd_region.proofs.bands.BandsArea.tiles.Goals as goal

pub returns-clause-ok : goal.returns-clause-ok
returns-clause-ok c =
    let b = c.self.inside in
    ap (λ (s : Rows). grid b.width b.height (has_point s)) c.swap.ensures.x_after
    ∙ tiles_grid c.args.t b.width b.height b.rows c.round_rows.new.new c.args.self.now c.self.view_is
    c.in_ok-round_rows.ensures
