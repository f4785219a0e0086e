use Rattle.dd_trace.proofs.Independence.{clients_are_independent}
use Rattle.dd_trace.proofs.laws.clients_are_independent.Goals as goal

pub returns : goal.returns
returns c = clients_are_independent
