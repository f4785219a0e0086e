use Rattle.dd_acc.proofs.Hiding.{follows}
use Rattle.dd_acc.proofs.laws.hidden_follows.Goals as goal

pub returns : goal.returns
returns c = follows
