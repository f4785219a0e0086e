use Rattle.std.proofs.Common.{◌-◌, ap, Ok, arith}
use Rattle.dd_view.proofs.Feeding.{steps_more, steps_still, steps_done}
use Rattle.dd_view.proofs.player.Player.read_parts.Goals as goal

pub returns-then-not-branch-clause-ok : goal.returns-then-not-branch-clause-ok
returns-then-not-branch-clause-ok c =
    steps_still (c.args.count - c.loop-i._i) c.loop-i.self c.step.new.self _ c.in_ok-step.ensures.next
    (c.in_ok-step.ensures.stands (ap Ok c.if-not-branch.true)) c.loop-i.invariant.so_far

pub loop-i-preserved : goal.loop-i-preserved
loop-i-preserved c = record {
  so_far =
      steps_more c.args.count c.loop-i._i c.loop-i.self c.step.new.self _ c.loop-i-test.true c.in_ok-step.ensures.next
      c.loop-i.invariant.so_far;
  few = omega (arith, c.step.ensures.few, c.loop-i.invariant.few);
}

pub returns-clause-ok : goal.returns-clause-ok
returns-clause-ok c = steps_done c.args.count c.loop-i._i c.loop-i.self _ c.loop-i-test.false c.loop-i.invariant.so_far
