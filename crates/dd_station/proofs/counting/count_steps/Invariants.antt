-- The counts are of the answers so far, and the steps that are left give the rest.
use Rattle.dd_station.proofs.CountedSteps.{SoFar}
use Rattle.dd_station.proofs.counting.count_steps.Given as goal

abbrev pub invariant-loop-step : goal.invariant-loop-step
invariant-loop-step l = SoFar l.counts l.fn.station l.station l.steps l.step-index
