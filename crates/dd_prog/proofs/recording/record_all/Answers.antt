-- The magic, what the steps leave, and the end, one after another; and a fault in the first or the second.
use Rattle.std.proofs.Common.{◌++◌, Ok, Err, arith}
use Rattle.std.specs.List.{flat_map}
use Rattle.std.proofs.lemmas.Result.{err_from_is_err_and}
use Rattle.dd_record.specs.Writing.{magic, chunk_bytes, end_bytes, record_bytes}
use Rattle.dd_trace.specs.Trace.{moments}
use Rattle.dd_prog.specs.Recording.{recorded}
use Rattle.dd_prog.proofs.Kept.{stopped_in_first, then_others}
use Rattle.dd_prog.proofs.recording.record_all.Goals as goal

pub returns-in_err-begin-clause-wrote : goal.returns-in_err-begin-clause-wrote
unfolding record_bytes
returns-in_err-begin-clause-wrote g c =
    let p = err_from_is_err_and c.from_residual.result c.from_residual.ensures.1 in
    let left = flat_map chunk_bytes (recorded c.args.client (moments c.args.station.now c.args.steps.now)) in
    let fault = c.in_err-begin.field-0.0 in
    rw (p.1, p.2)
    (stopped_in_first fault g.K.Sink.held g.K.Sink.faults c.args.sink.now c.begin.new.sink (magic ++ left)
    end_bytes
    (stopped_in_first fault g.K.Sink.held g.K.Sink.faults c.args.sink.now c.begin.new.sink magic left
    c.in_err-begin.ensures.wrote))

pub returns-in_err-record_steps-clause-wrote : goal.returns-in_err-record_steps-clause-wrote
unfolding record_bytes
returns-in_err-record_steps-clause-wrote g c =
    let from = c.from_residual-in_err-record_steps in
    let p = err_from_is_err_and from.result from.ensures.1 in
    let left = flat_map chunk_bytes (recorded c.args.client (moments c.args.station.now c.args.steps.now)) in
    let fault = c.in_err-record_steps.field-0.0 in
    rw (p.1, p.2)
    (stopped_in_first fault g.K.Sink.held g.K.Sink.faults c.args.sink.now c.record_steps.new.sink (magic ++ left)
    end_bytes
    (then_others (Err fault) g.K.Sink.held g.K.Sink.faults c.args.sink.now c.begin.new.sink c.record_steps.new.sink
    magic left c.in_ok-begin.ensures.wrote c.begin.ensures.later c.in_err-record_steps.ensures.wrote))

pub returns-clause-wrote : goal.returns-clause-wrote
unfolding record_bytes
returns-clause-wrote g c =
    let left = flat_map chunk_bytes (recorded c.args.client (moments c.args.station.now c.args.steps.now)) in
    let one = c.begin.ensures.later in
    let two = c.record_steps.ensures.later in
    then_others c.finish.result g.K.Sink.held g.K.Sink.faults c.args.sink.now c.record_steps.new.sink c.finish.new.sink
    (magic ++ left) end_bytes
    (then_others (Ok tt) g.K.Sink.held g.K.Sink.faults c.args.sink.now c.begin.new.sink c.record_steps.new.sink
    magic left
    c.in_ok-begin.ensures.wrote one c.in_ok-record_steps.ensures.wrote)
    (omega (arith, one, two)) c.finish.ensures.wrote
