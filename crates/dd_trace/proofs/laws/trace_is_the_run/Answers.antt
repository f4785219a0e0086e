use Rattle.dd_trace.proofs.Traced.{traced}
use Rattle.dd_trace.proofs.laws.trace_is_the_run.Goals as goal

pub returns : goal.returns
returns c = traced
