-- The parts one after another, and a fault in each.
use Rattle.std.proofs.Common.{Err}
use Rattle.std.proofs.lemmas.Result.{err_from_is_err_and}
use Rattle.dd_record.specs.Writing.{frame_bytes}
use Rattle.dd_record.proofs.Written.{in_first, then_others}
use Rattle.dd_record.proofs.writing.write_parts.Goals as goal

pub returns-in_err-write_moves : goal.returns-in_err-write_moves
unfolding frame_bytes
returns-in_err-write_moves g c =
    let from = c.from_residual-in_err-write_moves in
    let p = err_from_is_err_and from.result from.ensures.1 in
    let fault = c.in_err-write_moves.field-0.0 in
    rw p.1 (then_others (Err fault) _ _ _ _ _ _ _ _ c.in_ok-write_head.ensures
    (in_first _ _ _ _ _ _ fault c.in_err-write_moves.ensures))

pub returns-in_err-write_rects : goal.returns-in_err-write_rects
unfolding frame_bytes
returns-in_err-write_rects g c =
    let from = c.from_residual-in_err-write_rects in
    let p = err_from_is_err_and from.result from.ensures.1 in
    let fault = c.in_err-write_rects.field-0.0 in
    rw p.1 (then_others (Err fault) _ _ _ _ _ _ _ _ c.in_ok-write_head.ensures
    (then_others (Err fault) _ _ _ _ _ _ _ _ c.in_ok-write_moves.ensures
    (in_first _ _ _ _ _ _ fault c.in_err-write_rects.ensures)))

pub returns-in_err-write_pixels : goal.returns-in_err-write_pixels
unfolding frame_bytes
returns-in_err-write_pixels g c =
    let from = c.from_residual-in_err-write_pixels in
    let p = err_from_is_err_and from.result from.ensures.1 in
    let fault = c.in_err-write_pixels.field-0.0 in
    rw p.1 (then_others (Err fault) _ _ _ _ _ _ _ _ c.in_ok-write_head.ensures
    (then_others (Err fault) _ _ _ _ _ _ _ _ c.in_ok-write_moves.ensures
    (then_others (Err fault) _ _ _ _ _ _ _ _ c.in_ok-write_rects.ensures
    (in_first _ _ _ _ _ _ fault c.in_err-write_pixels.ensures))))

pub returns : goal.returns
unfolding frame_bytes
returns g c =
    let r = c.write_shape.result in
    then_others r _ _ _ _ _ _ _ _ c.in_ok-write_head.ensures
    (then_others r _ _ _ _ _ _ _ _ c.in_ok-write_moves.ensures
    (then_others r _ _ _ _ _ _ _ _ c.in_ok-write_rects.ensures
    (then_others r _ _ _ _ _ _ _ _ c.in_ok-write_pixels.ensures c.write_shape.ensures)))
