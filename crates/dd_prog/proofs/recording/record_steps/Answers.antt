-- The first step, one more, a fault in between, and the end.
use Rattle.std.proofs.Common.{ℕ, ◌+◌, ◌<◌, length, sym, ap, subst, arith}
use Rattle.std.proofs.lemmas.Result.{err_from_is_err_and}
use Rattle.dd_calls.specs.Calls.{IsOfClient}
use Rattle.dd_prog.proofs.Playing.{of_client_at}
use Rattle.dd_prog.proofs.Recorded.{recorded_none, recorded_more, recorded_all, recorded_stopped}
use Rattle.dd_prog.proofs.recording.record_steps.Goals as goal

pub loop-step-init : goal.loop-step-init
loop-step-init g c =
    recorded_none g.K.Sink.held g.K.Sink.faults c.args.sink.now c.args.client c.args.station.now c.args.steps.now

pub record_step-requires-clause-client : goal.record_step-requires-clause-client
record_step-requires-clause-client g c =
    let step = c.step-item.result in
    subst (λ (n : ℕ). IsOfClient n step) (sym (ap length c.loop-step.invariant.clients))
    (of_client_at (length c.args.station.now.clients) c.args.steps.now c.loop-step.step-index step c.requires.clients
    c.loop-step-test.true c.step-item.is)

pub record_step-requires-clause-count : goal.record_step-requires-clause-count
record_step-requires-clause-count g c =
    let few : c.args.station.now.steps + length c.args.steps.now < 4294967295 = c.requires.count in
    omega (arith, c.loop-step.invariant.steps, few, c.loop-step-test.true)

pub loop-step-preserved : goal.loop-step-preserved
loop-step-preserved g c =
    recorded_more g.K.Sink.held g.K.Sink.faults c.args.sink.now c.loop-step.sink c.record_step.new.sink c.args.client
    c.args.station.now c.loop-step.station c.record_step.new.station c.args.steps.now c.loop-step.step-index
    c.step-item.result c.loop-step.invariant c.loop-step-test.true c.step-item.is c.in_ok-record_step.ensures.wrote
    c.record_step.ensures.later c.in_ok-record_step.ensures.state

pub returns-in_err-record_step-clause-wrote : goal.returns-in_err-record_step-clause-wrote
returns-in_err-record_step-clause-wrote g c =
    let p = err_from_is_err_and c.from_residual.result c.from_residual.ensures.1 in
    rw (p.1, p.2)
    (recorded_stopped c.in_err-record_step.field-0.0 g.K.Sink.held g.K.Sink.faults c.args.sink.now c.loop-step.sink
    c.record_step.new.sink c.args.client c.args.station.now c.loop-step.station c.args.steps.now c.loop-step.step-index
    c.step-item.result c.loop-step.invariant c.loop-step-test.true c.step-item.is c.in_err-record_step.ensures.wrote)

pub returns-clause-wrote : goal.returns-clause-wrote
returns-clause-wrote g c =
    recorded_all g.K.Sink.held g.K.Sink.faults c.args.sink.now c.loop-step.sink c.args.client c.args.station.now
    c.loop-step.station c.args.steps.now c.loop-step.step-index c.loop-step.invariant c.loop-step-test.false
