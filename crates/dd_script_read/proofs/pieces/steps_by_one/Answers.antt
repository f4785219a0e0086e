use Rattle.std.proofs.Common.{◌≡◌, ◌<◌, length, None, Some, arith}
use Rattle.json.specs.Json.{after_end_array}
use Rattle.dd_script_read.specs.Pieces.{NextStep}
use Rattle.dd_script_read.proofs.ByPieces.{step_read, all_steps}
use Rattle.dd_script_read.proofs.pieces.steps_by_one.Goals as goal

pub loop-alloc-preserved : goal.loop-alloc-preserved
loop-alloc-preserved c =
    let now = c.loop-alloc.reader in
    let next = c.next_step.new.reader in
    let going : after_end_array now ≡ None = grind arith in
    let same : c.take_end_array.new.self ≡ now = grind arith in
    let one : NextStep now c.in_ok-step.step next = rw (← same) c.in_ok-step.ensures.ok in
    let shorter : length next < length now = rw (← same) c.in_ok-step.ensures.shorter in
    step_read c.args.reader.now now next c.loop-alloc.steps.items c.push.new.self.items c.in_ok-step.step going one
    shorter c.in_ok-push.ensures.items c.loop-alloc.invariant

pub returns : goal.returns
returns c =
    let end : after_end_array c.loop-alloc.reader ≡ Some c.take_end_array.new.self = grind arith in
    all_steps c.args.reader.now c.loop-alloc.reader c.take_end_array.new.self c.loop-alloc.steps.items end
    c.loop-alloc.invariant
