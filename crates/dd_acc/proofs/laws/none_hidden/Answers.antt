use Rattle.dd_acc.proofs.Hiding.{none_hidden}
use Rattle.dd_acc.proofs.laws.none_hidden.Goals as goal

pub returns : goal.returns
returns c = none_hidden
