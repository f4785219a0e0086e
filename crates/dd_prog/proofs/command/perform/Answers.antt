-- Each command ends as its task says.
use Rattle.dd_prog.proofs.command.perform.Goals as goal

pub returns-in-Replay-clause-outcome : goal.returns-in-Replay-clause-outcome
returns-in-Replay-clause-outcome g c = rw c.in-Replay.is c.replay.ensures.outcome

pub returns-in-Record-clause-outcome : goal.returns-in-Record-clause-outcome
returns-in-Record-clause-outcome g c = rw c.in-Record.is c.record.ensures.outcome

pub returns-in-View-clause-outcome : goal.returns-in-View-clause-outcome
returns-in-View-clause-outcome g c = rw c.in-View.is c.view.ensures.outcome
