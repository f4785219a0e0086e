-- One pixel more, a fault in it, and the end.
use Rattle.std.proofs.Common.{◌+◌, ◌++◌, sym, ap, ◌∙◌}
use Rattle.std.proofs.lemmas.Result.{err_from_is_err_and}
use Rattle.dd_record.specs.Pages.{pieces, run_bytes, pixel_in}
use Rattle.dd_record.specs.Writing.{pixel_bytes}
use Rattle.dd_record.proofs.Written.{so_more, so_failed, so_all, next_place, no_place}
use Rattle.dd_record.proofs.pages.put_run.Goals as goal

pub loop-x-preserved : goal.loop-x-preserved
unfolding run_bytes
loop-x-preserved g c =
    let pixel = pixel_in c.args.row.now in
    so_more _ _ _ _ _ _ _ _ _ _ _ _ _ c.loop-x.invariant
    (next_place pixel c.loop-x.x c.args.right c.loop-x-test.true
    ∙ ap (λ n. pixel_bytes n ++ pieces pixel (c.loop-x.x + 1) c.args.right) (sym c.colour_in.ensures))
    c.in_ok-put_pixel.ensures

pub returns-in_err-put_pixel : goal.returns-in_err-put_pixel
unfolding run_bytes
returns-in_err-put_pixel g c =
    let p = err_from_is_err_and c.from_residual.result c.from_residual.ensures.1 in
    let pixel = pixel_in c.args.row.now in
    rw p.1 (so_failed _ _ _ _ _ _ _ _ c.put_pixel.new.kept.items _ _ _ _ c.in_err-put_pixel.field-0.0 c.loop-x.invariant
    (next_place pixel c.loop-x.x c.args.right c.loop-x-test.true
    ∙ ap (λ n. pixel_bytes n ++ pieces pixel (c.loop-x.x + 1) c.args.right) (sym c.colour_in.ensures))
    c.in_err-put_pixel.ensures)

pub returns : goal.returns
unfolding run_bytes
returns g c =
    so_all _ _ _ _ _ _ _ _ c.loop-x.invariant
    (no_place (pixel_in c.args.row.now) c.loop-x.x c.args.right c.loop-x-test.false)
