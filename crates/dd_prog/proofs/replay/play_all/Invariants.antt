-- A front of the text of all answers was written or is kept, and the steps that are left give the rest.
use Rattle.dd_prog.specs.Exchange.{side}
use Rattle.dd_prog.proofs.Playing.{SoFar}
use Rattle.dd_prog.proofs.replay.play_all.Given as goal

abbrev pub invariant-loop-step : goal.invariant-loop-step
invariant-loop-step g l =
    SoFar (side g.K.Sink.held g.K.Sink.faults l.fn.sink l.sink) l.kept.items l.fn.station l.station l.steps l.step-index
