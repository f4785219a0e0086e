use Rattle.dd_coal.proofs.Least.{keeps_points}
use Rattle.dd_coal.proofs.laws.rounding_keeps_points.Goals as goal

pub returns : goal.returns
returns c = keeps_points
