-- Where nothing was ever covered, no cell is hidden.
use Rattle.std.proofs.Common.{sym, ap, ◌∙◌}
use Rattle.dd_geom.specs.Grid.{Grid}
use Rattle.dd_grid.specs.Cell.{Cell}
use Rattle.dd_grid.specs.Drawing.{any_hidden}
use Rattle.dd_grid.proofs.DrawingLemmas.{any_hidden-shows_all}
use Rattle.dd_grid.proofs.picture.Picture.any_hidden.Goals as goal

pub returns-else-self-clause-value : goal.returns-else-self-clause-value
returns-else-self-clause-value c =
    let p = c.self.inside in
    let view : Grid Cell = record { width = p.width; height = p.height; cells = p.cells.items } in
    c.if-self.false
    ∙ (sym (any_hidden-shows_all view c.self.invariant.0.whole (c.self.invariant.1 c.if-self.false))
    ∙ ap any_hidden c.self.view_is)
