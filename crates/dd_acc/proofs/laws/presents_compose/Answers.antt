use Rattle.dd_acc.proofs.Counting.{composes}
use Rattle.dd_acc.proofs.laws.presents_compose.Goals as goal

pub returns : goal.returns
returns c = composes
