use Rattle.std.proofs.Common.{Bool, ap, ◌∙◌, sym, subst}
use Rattle.dd_geom.specs.Grid.{Grid, grid}
use Rattle.dd_region.specs.declared.rows.Rows.{Rows}
use Rattle.dd_region.specs.Rows.{has_point}
use Rattle.dd_region.specs.Sweep.{IsPatch}
use Rattle.dd_region.proofs.KeptLemmas.{patched_grid}
use Rattle.dd_region.proofs.bands.Bands.write.Goals as goal

pub returns-clause-ok : goal.returns-clause-ok
returns-clause-ok c =
    let b = c.self.inside in
    ap (λ (s : Rows). grid b.width b.height (has_point s)) c.swap.ensures.x_after
    ∙ patched_grid c.args.patch b.width b.height b.rows c.sweep.new.new c.args.self.now c.self.view_is
    (subst (λ (v : Grid Bool). IsPatch c.args.patch v.width v.height) (sym c.self.view_is) c.requires)
    c.self.invariant.deep c.in_ok-sweep.ensures
