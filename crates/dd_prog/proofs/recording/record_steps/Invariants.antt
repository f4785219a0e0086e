-- What the steps so far left was written, and the steps that are left leave the rest.
use Rattle.dd_prog.specs.Exchange.{side}
use Rattle.dd_prog.proofs.Recorded.{SoFarRecorded}
use Rattle.dd_prog.proofs.recording.record_steps.Given as goal

abbrev pub invariant-loop-step : goal.invariant-loop-step
invariant-loop-step g l =
    SoFarRecorded (side g.K.Sink.held g.K.Sink.faults l.fn.sink l.sink) l.client l.fn.station l.station l.steps
    l.step-index
