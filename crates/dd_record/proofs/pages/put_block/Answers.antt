-- The first row, one more, a fault in it, and the end.
use Rattle.std.proofs.Common.{ℕ, List, ◌+◌, ◌++◌, sym, ap, ◌∙◌}
use Rattle.std.proofs.lemmas.Result.{err_from_is_err_and}
use Rattle.dd_record.specs.Pages.{pieces, run_bytes, row_at, block_bytes}
use Rattle.dd_record.proofs.Written.{so_none, so_more, so_failed, so_all, next_place, no_place}
use Rattle.dd_record.proofs.pages.put_block.Goals as goal

pub loop-y-init : goal.loop-y-init
unfolding block_bytes
loop-y-init g c = so_none _ _ _ _

pub loop-y-preserved : goal.loop-y-preserved
loop-y-preserved g c =
    let sides = c.args.sides in
    let run : ℕ → List ℕ = λ y. run_bytes (row_at c.args.surface.now y) sides.left sides.right in
    so_more _ _ _ _ _ _ _ _ _ _ _ _ _ c.loop-y.invariant
    (next_place run c.loop-y.y sides.bottom c.loop-y-test.true
    ∙ ap (λ r. run_bytes r sides.left sides.right ++ pieces run (c.loop-y.y + 1) sides.bottom) (sym c.row_at.ensures))
    c.in_ok-put_run.ensures

pub returns-in_err-put_run : goal.returns-in_err-put_run
returns-in_err-put_run g c =
    let p = err_from_is_err_and c.from_residual.result c.from_residual.ensures.1 in
    let sides = c.args.sides in
    let run : ℕ → List ℕ = λ y. run_bytes (row_at c.args.surface.now y) sides.left sides.right in
    rw p.1 (so_failed _ _ _ _ _ _ _ _ c.put_run.new.kept.items _ _ _ _ c.in_err-put_run.field-0.0 c.loop-y.invariant
    (next_place run c.loop-y.y sides.bottom c.loop-y-test.true
    ∙ ap (λ r. run_bytes r sides.left sides.right ++ pieces run (c.loop-y.y + 1) sides.bottom) (sym c.row_at.ensures))
    c.in_err-put_run.ensures)

pub returns : goal.returns
returns g c =
    let sides = c.args.sides in
    let run : ℕ → List ℕ = λ y. run_bytes (row_at c.args.surface.now y) sides.left sides.right in
    so_all _ _ _ _ _ _ _ _ c.loop-y.invariant (no_place run c.loop-y.y sides.bottom c.loop-y-test.false)
