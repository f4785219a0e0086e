-- No fault stands in the way of a shape.
use Rattle.dd_pointer.proofs.Sizes.{shape_is_read}
use Rattle.dd_pointer.proofs.laws.shape_is_read.Goals as goal

pub returns : goal.returns
returns c = shape_is_read
