use Rattle.std.proofs.Common.{Bool, false, ap, ◌∙◌, sym, arith}
use Rattle.dd_geom.specs.Grid.{Grid}
use Rattle.dd_geom.proofs.GridLemmas.{value_at-grid}
use Rattle.dd_bits.specs.Area.{is_in}
use Rattle.dd_region.specs.Runs.{in_runs}
use Rattle.dd_region.specs.Rows.{has_point}
use Rattle.dd_region.proofs.bands.BandsArea.has.Goals as goal

pub returns-then-x-self : goal.returns-then-x-self
returns-then-x-self c =
    let b = c.self.inside in
    c.has_column.ensures
    ∙ ap (λ r. in_runs r c.args.x) c.at-row.ensures.runs
    ∙ sym (value_at-grid false b.width b.height (has_point b.rows) c.args.x c.args.y (omega arith) (omega arith))
    ∙ ap (λ (g : Grid Bool). is_in g c.args.x c.args.y) c.self.view_is
