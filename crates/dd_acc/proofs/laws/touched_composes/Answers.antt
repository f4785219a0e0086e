use Rattle.dd_acc.proofs.Origins.{touched-touched}
use Rattle.dd_acc.proofs.laws.touched_composes.Goals as goal

pub returns : goal.returns
returns c = touched-touched
