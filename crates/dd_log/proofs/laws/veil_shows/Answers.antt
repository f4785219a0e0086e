use Rattle.dd_log.proofs.Veiling.{shows-veiled}
use Rattle.dd_log.proofs.laws.veil_shows.Goals as goal

pub returns : goal.returns
returns c = shows-veiled
