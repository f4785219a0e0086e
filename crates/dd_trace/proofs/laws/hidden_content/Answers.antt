use Rattle.dd_trace.proofs.Veiling.{run-veiled}
use Rattle.dd_trace.proofs.laws.hidden_content.Goals as goal

pub returns : goal.returns
returns c = run-veiled
