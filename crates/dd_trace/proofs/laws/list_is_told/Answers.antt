use Rattle.dd_trace.proofs.EachStep.{list_told}
use Rattle.dd_trace.proofs.laws.list_is_told.Goals as goal

pub returns : goal.returns
returns c = list_told
