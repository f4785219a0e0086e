use Rattle.dd_coal.proofs.Least.{least}
use Rattle.dd_coal.proofs.laws.least_power.Goals as goal

pub returns : goal.returns
returns c = least
