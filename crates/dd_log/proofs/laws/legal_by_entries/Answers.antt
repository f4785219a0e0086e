use Rattle.dd_log.proofs.Legal.{legal-with_entry}
use Rattle.dd_log.proofs.laws.legal_by_entries.Goals as goal

pub returns : goal.returns
returns c = legal-with_entry
