use Rattle.dd_log.proofs.Legal.{end_last}
use Rattle.dd_log.proofs.laws.end_is_last.Goals as goal

pub returns : goal.returns
returns c = end_last
