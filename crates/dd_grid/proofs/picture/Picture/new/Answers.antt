-- Copies of one black cell are the black picture.
use Rattle.std.proofs.Common.{◌*◌, replicate, ap, ◌∙◌, rules}
use Rattle.dd_grid.specs.Cell.{plain}
use Rattle.dd_grid.proofs.DrawingLemmas.{grid_from_replicate}
use Rattle.dd_grid.proofs.picture.Picture.new.Goals as goal

pub returns : goal.returns
returns c =
    grid_from_replicate c.args.w c.args.h (plain 0) c.in_ok-cells.cells.items
    (c.in_ok-cells.ensures.items_if_clones_equal (λ y e. search rules)
    ∙ ap (replicate (c.args.w * c.args.h)) c.plain.ensures)
