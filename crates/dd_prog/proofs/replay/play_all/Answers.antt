-- The first step, one more, a fault in between, and the end.
use Rattle.std.proofs.Common.{ℕ, ◌+◌, ◌<◌, length, sym, ap, subst, arith}
use Rattle.std.proofs.lemmas.Result.{err_from_is_err_and}
use Rattle.dd_calls.specs.Calls.{IsOfClient}
use Rattle.dd_prog.proofs.Playing.{so_far_none, so_far_more, so_far_all, of_client_at, stopped}
use Rattle.dd_prog.proofs.replay.play_all.Goals as goal

pub loop-step-init : goal.loop-step-init
loop-step-init g c =
    so_far_none g.K.Sink.held g.K.Sink.faults c.args.sink.now c.new-kept.result.items c.args.station.now
    c.args.steps.now c.new-kept.ensures.items

pub play-requires-clause-client : goal.play-requires-clause-client
play-requires-clause-client g c =
    let step = c.step-item.result in
    subst (λ (n : ℕ). IsOfClient n step) (sym (ap length c.loop-step.invariant.clients))
    (of_client_at (length c.args.station.now.clients) c.args.steps.now c.loop-step.step-index step c.requires.clients
    c.loop-step-test.true c.step-item.is)

pub play-requires-clause-count : goal.play-requires-clause-count
play-requires-clause-count g c =
    let few : c.args.station.now.steps + length c.args.steps.now < 4294967295 = c.requires.count in
    omega (arith, c.loop-step.invariant.steps, few, c.loop-step-test.true)

pub loop-step-preserved : goal.loop-step-preserved
loop-step-preserved g c =
    so_far_more g.K.Sink.held g.K.Sink.faults c.args.sink.now c.loop-step.sink c.play.new.sink
    c.loop-step.kept.items c.play.new.kept.items c.args.station.now c.loop-step.station c.play.new.station
    c.args.steps.now c.loop-step.step-index c.step-item.result
    c.loop-step.invariant c.loop-step-test.true c.step-item.is c.in_ok-play.ensures.adds c.play.ensures.later
    c.in_ok-play.ensures.state

pub returns-in_err-play-clause-wrote : goal.returns-in_err-play-clause-wrote
returns-in_err-play-clause-wrote g c =
    let p = err_from_is_err_and c.from_residual.result c.from_residual.ensures.1 in
    rw (p.1, p.2)
    (stopped c.in_err-play.field-0.0 g.K.Sink.held g.K.Sink.faults c.args.sink.now c.loop-step.sink c.play.new.sink
    c.loop-step.kept.items c.args.station.now c.loop-step.station c.args.steps.now c.loop-step.step-index
    c.step-item.result c.loop-step.invariant c.loop-step-test.true c.step-item.is c.in_err-play.ensures.adds)

pub returns-clause-wrote : goal.returns-clause-wrote
returns-clause-wrote g c =
    so_far_all c.write_kept.result g.K.Sink.held g.K.Sink.faults c.args.sink.now c.loop-step.sink c.write_kept.new.sink
    c.loop-step.kept.items c.args.station.now c.loop-step.station c.args.steps.now c.loop-step.step-index
    c.loop-step.invariant c.loop-step-test.false c.write_kept.ensures.wrote
