-- The painted cells are the filled picture.
use Rattle.std.proofs.Common.{List, ap, ◌∙◌, arith}
use Rattle.std.proofs.lemmas.List.{with_items_is}
use Rattle.dd_geom.specs.Grid.{Grid}
use Rattle.dd_grid.specs.Cell.{Cell}
use Rattle.dd_grid.specs.Drawing.{filled}
use Rattle.dd_grid.proofs.DrawingLemmas.{filled_from_painted}
use Rattle.dd_grid.proofs.picture.Picture.fill.Goals as goal

pub returns-clause-drawn : goal.returns-clause-drawn
returns-clause-drawn c =
    let p = c.self.inside in
    let view : Grid Cell = record { width = p.width; height = p.height; cells = p.cells.items } in
    let at : List Cell → Grid Cell = λ cs. record { width = p.width; height = p.height; cells = cs } in
    ap at (with_items_is p.cells c.paint.new.cells (omega arith))
    ∙ (filled_from_painted view c.args.r c.args.colour c.sides_of-sides.result c.plain.result c.deref_mut.result.now
    c.paint.new.cells c.sides_of-sides.ensures c.plain.ensures c.deref_mut.ensures.value (omega arith) (omega arith)
    c.paint.ensures
    ∙ ap (λ n. filled n c.args.r c.args.colour) c.self.view_is)
