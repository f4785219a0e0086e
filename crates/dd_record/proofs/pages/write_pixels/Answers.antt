-- All pixels were added to none, and then written; or there was a fault before.
use Rattle.std.proofs.Common.{◌++◌, subst, ap, ◌∙◌, Err}
use Rattle.std.proofs.lemmas.Result.{err_from_is_err_and}
use Rattle.std.specs.List.{flat_map}
use Rattle.dd_geom.specs.Rect.{sides}
use Rattle.dd_record.specs.Pages.{block_bytes}
use Rattle.dd_record.specs.Sinks.{change, Writes}
use Rattle.dd_record.proofs.Gathered.{gathered_is}
use Rattle.dd_record.proofs.Written.{all_written}
use Rattle.dd_record.proofs.pages.write_pixels.Goals as goal

pub returns-in_err-put_blocks : goal.returns-in_err-put_blocks
returns-in_err-put_blocks g c =
    let p = err_from_is_err_and c.from_residual.result c.from_residual.ensures.1 in
    let none = c.new-kept.ensures in
    let sink = change g.K.Sink.held g.K.Sink.faults c.args.k.now c.put_blocks.new.k in
    let fault = c.in_err-put_blocks.field-0.0 in
    rw p.1 (subst (λ bs. Writes sink bs (Err fault))
    (ap (λ xs. xs ++ flat_map (λ r. block_bytes c.args.surface.now (sides r)) c.args.rects.now) none
    ∙ gathered_is c.args.surface.now c.args.rects.now)
    c.in_err-put_blocks.ensures)

pub returns : goal.returns
returns g c =
    let sink = change g.K.Sink.held g.K.Sink.faults c.args.k.now c.write_kept.new.k in
    subst (λ bs. Writes sink bs c.write_kept.result) (gathered_is c.args.surface.now c.args.rects.now)
    (all_written c.write_kept.result _ _ _ _ _ _ _ _ _ c.new-kept.ensures c.in_ok-put_blocks.ensures
    c.write_kept.ensures.wrote)
