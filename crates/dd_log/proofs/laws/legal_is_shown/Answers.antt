use Rattle.dd_log.proofs.Shown.{legal_shows}
use Rattle.dd_log.proofs.laws.legal_is_shown.Goals as goal

pub returns : goal.returns
returns c = legal_shows
