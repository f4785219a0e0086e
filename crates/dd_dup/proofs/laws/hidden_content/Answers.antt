use Rattle.dd_dup.proofs.Veiling.{reply-veiled}
use Rattle.dd_dup.proofs.laws.hidden_content.Goals as goal

pub returns : goal.returns
returns c = reply-veiled
