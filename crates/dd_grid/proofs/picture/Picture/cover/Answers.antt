-- The drawn cells are the picture with the image, hidden.
use Rattle.std.proofs.Common.{true, List, ap, ◌∙◌, arith}
use Rattle.std.proofs.lemmas.List.{with_items_is}
use Rattle.dd_geom.specs.Grid.{Grid}
use Rattle.dd_grid.specs.Cell.{Cell, plain, cell_of}
use Rattle.dd_grid.specs.Drawing.{covered}
use Rattle.dd_grid.proofs.DrawingLemmas.{image_from_drawn}
use Rattle.dd_grid.proofs.picture.Picture.cover.Goals as goal

pub returns-clause-drawn : goal.returns-clause-drawn
returns-clause-drawn c =
    let p = c.self.inside in
    let view : Grid Cell = record { width = p.width; height = p.height; cells = p.cells.items } in
    let at : List Cell → Grid Cell = λ cs. record { width = p.width; height = p.height; cells = cs } in
    ap at (with_items_is p.cells c.write_image.new.cells (omega arith))
    ∙ (image_from_drawn (plain 0) (cell_of true) view c.args.r c.args.colours.now c.sides_of.result
    c.deref_mut.result.now c.write_image.new.cells c.sides_of.ensures c.deref_mut.ensures.value (omega arith)
    (omega arith) c.write_image.ensures
    ∙ ap (λ n. covered n c.args.r c.args.colours.now) c.self.view_is)
