-- The first step, and one more.
use Rattle.std.proofs.Common.{◌+◌, ◌<◌, length, arith}
use Rattle.dd_station.proofs.CountedSteps.{none_so_far, next_fits, one_so_far}
use Rattle.dd_station.proofs.counting.count_steps.Goals as goal

pub loop-step-init : goal.loop-step-init
loop-step-init c = none_so_far c.new-counts.result c.args.station.now c.args.steps.now c.new-counts.ensures

pub count-requires : goal.count-requires
count-requires c =
    let few : c.args.station.now.steps + length c.args.steps.now < 4294967295 = c.requires.count in
    next_fits c.loop-step.counts c.args.station.now c.loop-step.station c.args.steps.now c.loop-step.step-index
    c.in_ok-answer.answer c.loop-step.invariant c.in_ok-answer.ensures.bounded c.loop-step-test.true
    (omega (arith, few))

pub loop-step-preserved : goal.loop-step-preserved
loop-step-preserved c =
    one_so_far c.loop-step.counts c.count.new.self c.args.station.now c.loop-step.station c.step.new.self
    c.args.steps.now c.loop-step.step-index c.step-item.result c.in_ok-answer.answer
    c.loop-step.invariant c.loop-step-test.true c.step-item.is c.in_ok-answer.ensures.answer
    c.in_ok-answer.ensures.state c.in_ok-answer.ensures.bounded c.count.ensures.counted
