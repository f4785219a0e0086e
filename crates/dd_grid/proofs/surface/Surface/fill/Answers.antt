-- The painted colours are the painted surface.
use Rattle.std.proofs.Common.{ℕ, List, ap, ◌∙◌, arith}
use Rattle.std.proofs.lemmas.List.{with_items_is}
use Rattle.dd_geom.specs.Grid.{Grid}
use Rattle.dd_grid.specs.Drawing.{painted}
use Rattle.dd_grid.proofs.DrawingLemmas.{rect_from_painted}
use Rattle.dd_grid.proofs.surface.Surface.fill.Goals as goal

pub returns-clause-drawn : goal.returns-clause-drawn
returns-clause-drawn c =
    let s = c.self.inside in
    let view : Grid ℕ = record { width = s.width; height = s.height; cells = s.colours.items } in
    let at : List ℕ → Grid ℕ = λ cs. record { width = s.width; height = s.height; cells = cs } in
    ap at (with_items_is s.colours c.paint.new.cells (omega arith))
    ∙ (rect_from_painted 0 view c.args.r c.sides_of.result c.args.colour c.deref_mut.result.now c.paint.new.cells
    c.sides_of.ensures c.deref_mut.ensures.value (omega arith) (omega arith) c.paint.ensures
    ∙ ap (λ n. painted n c.args.r c.args.colour) c.self.view_is)
