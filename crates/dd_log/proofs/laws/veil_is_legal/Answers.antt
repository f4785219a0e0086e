use Rattle.dd_log.proofs.Veiling.{is_legal-veiled}
use Rattle.dd_log.proofs.laws.veil_is_legal.Goals as goal

pub returns : goal.returns
returns c = is_legal-veiled
