-- The drawn colours are the surface with the image.
use Rattle.std.proofs.Common.{ℕ, List, ap, ◌∙◌, arith}
use Rattle.std.proofs.lemmas.List.{with_items_is}
use Rattle.dd_geom.specs.Grid.{Grid}
use Rattle.dd_grid.specs.Drawing.{imaged}
use Rattle.dd_grid.proofs.DrawingLemmas.{image_from_drawn}
use Rattle.dd_grid.proofs.surface.Surface.blit.Goals as goal

pub returns-clause-drawn : goal.returns-clause-drawn
returns-clause-drawn c =
    let s = c.self.inside in
    let view : Grid ℕ = record { width = s.width; height = s.height; cells = s.colours.items } in
    let at : List ℕ → Grid ℕ = λ cs. record { width = s.width; height = s.height; cells = cs } in
    ap at (with_items_is s.colours c.copy_image.new.cells (omega arith))
    ∙ (image_from_drawn 0 (λ c. c) view c.args.r c.args.colours.now c.sides_of.result c.deref_mut.result.now
    c.copy_image.new.cells c.sides_of.ensures c.deref_mut.ensures.value (omega arith) (omega arith)
    c.copy_image.ensures
    ∙ ap (λ n. imaged n c.args.r c.args.colours.now) c.self.view_is)
