use Rattle.dd_acc.proofs.Honest.{honest}
use Rattle.dd_acc.proofs.laws.dirt_is_honest.Goals as goal

pub returns : goal.returns
returns c = honest
