use Rattle.dd_coal.proofs.Least.{stays_near}
use Rattle.dd_coal.proofs.laws.rounding_is_near.Goals as goal

pub returns : goal.returns
returns c = stays_near
