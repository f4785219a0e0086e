-- Copies of one black colour are the black surface.
use Rattle.std.proofs.Common.{rules}
use Rattle.dd_grid.proofs.DrawingLemmas.{grid_from_replicate}
use Rattle.dd_grid.proofs.surface.Surface.new.Goals as goal

pub returns : goal.returns
returns c =
    grid_from_replicate c.args.w c.args.h 0 c.in_ok-colours.colours.items
    (c.in_ok-colours.ensures.items_if_clones_equal (λ y e. search rules))
