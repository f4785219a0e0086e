-- One rectangle more, and a fault in it.
use Rattle.std.proofs.Common.{List, ℕ, pos, ◌+◌, ◌++◌, drop, sym, ap, ◌∙◌}
use Rattle.std.specs.List.{flat_map}
use Rattle.std.proofs.lemmas.Result.{err_from_is_err_and}
use Rattle.dd_geom.specs.declared.rect.Rect.{Rect}
use Rattle.dd_geom.specs.Rect.{sides}
use Rattle.dd_record.specs.Pages.{block_bytes}
use Rattle.dd_record.proofs.Written.{so_more, so_failed, next_element}
use Rattle.dd_record.proofs.pages.put_blocks.Goals as goal

abbrev corner : Rect
corner = record { left = pos 0; top = pos 0; right = pos 0; bottom = pos 0 }

pub loop-rect-preserved : goal.loop-rect-preserved
loop-rect-preserved g c =
    let block : Rect → List ℕ = λ r. block_bytes c.args.surface.now (sides r) in
    let i = c.loop-rect.rect-index in
    so_more _ _ _ _ _ _ _ _ _ _ _ _ _ c.loop-rect.invariant
    (next_element block c.args.rects.now i corner c.loop-rect-test.true
    ∙ ap (λ s. block_bytes c.args.surface.now s ++ flat_map block (drop (i + 1) c.args.rects.now))
    (sym c.sides_of.ensures))
    c.in_ok-put_block.ensures

pub returns-in_err-put_block : goal.returns-in_err-put_block
returns-in_err-put_block g c =
    let p = err_from_is_err_and c.from_residual.result c.from_residual.ensures.1 in
    let block : Rect → List ℕ = λ r. block_bytes c.args.surface.now (sides r) in
    let i = c.loop-rect.rect-index in
    rw p.1 (so_failed _ _ _ _ _ _ _ _ c.put_block.new.kept.items _ _ _ _
    c.in_err-put_block.field-0.0 c.loop-rect.invariant
    (next_element block c.args.rects.now i corner c.loop-rect-test.true
    ∙ ap (λ s. block_bytes c.args.surface.now s ++ flat_map block (drop (i + 1) c.args.rects.now))
    (sym c.sides_of.ensures))
    c.in_err-put_block.ensures)
