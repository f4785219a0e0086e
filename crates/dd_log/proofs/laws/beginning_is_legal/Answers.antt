use Rattle.dd_log.proofs.Legal.{legal_beginning}
use Rattle.dd_log.proofs.laws.beginning_is_legal.Goals as goal

pub returns : goal.returns
returns c = legal_beginning
