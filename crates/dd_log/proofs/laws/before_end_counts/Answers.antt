use Rattle.dd_log.proofs.Legal.{before_counts}
use Rattle.dd_log.proofs.laws.before_end_counts.Goals as goal

pub returns : goal.returns
returns c = before_counts
