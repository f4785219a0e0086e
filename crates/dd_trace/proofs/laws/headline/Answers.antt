use Rattle.dd_trace.proofs.EachStep.{headline_holds}
use Rattle.dd_trace.proofs.laws.headline.Goals as goal

pub returns : goal.returns
returns c = headline_holds
