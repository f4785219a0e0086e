-- One cell set is the surface with that colour.
use Rattle.std.proofs.Common.{ℕ, ap, ◌∙◌, arith}
use Rattle.dd_geom.specs.Grid.{Grid}
use Rattle.dd_grid.specs.Drawing.{with_colour}
use Rattle.dd_grid.proofs.DrawingLemmas.{with_colour_from_set}
use Rattle.dd_grid.proofs.surface.Surface.set.Goals as goal

pub returns-clause-set : goal.returns-clause-set
returns-clause-set c =
    let s = c.self.inside in
    let view : Grid ℕ = record { width = s.width; height = s.height; cells = s.colours.items } in
    with_colour_from_set view c.args.x c.args.y c.args.colour
    (omega (arith, ap (λ (g : Grid ℕ). g.width) c.self.view_is))
    (omega (arith, ap (λ (g : Grid ℕ). g.height) c.self.view_is)) c.self.invariant.whole
    ∙ ap (λ n. with_colour n c.args.x c.args.y c.args.colour) c.self.view_is
