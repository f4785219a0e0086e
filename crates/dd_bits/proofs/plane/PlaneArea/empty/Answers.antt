use Rattle.dd_bits.proofs.PlaneGrids.{all_false}
use Rattle.dd_bits.proofs.plane.PlaneArea.empty.Goals as goal

pub returns : goal.returns
returns c =
    all_false c.args.w c.args.h c.in_ok-cells.cells.items (c.in_ok-cells.ensures.items_if_clones_equal (λ y e. e))
