use Rattle.dd_log.proofs.Veiling.{refusal-veiled}
use Rattle.dd_log.proofs.laws.veil_refuses.Goals as goal

pub returns : goal.returns
returns c = refusal-veiled
