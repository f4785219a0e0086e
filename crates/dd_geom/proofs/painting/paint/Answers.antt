-- A row's run lies within the cells, and painting it is one row more.
use Rattle.std.proofs.Common.{ℕ, ◌≡◌, ◌+◌, ◌-◌, ◌*◌, ◌≤◌, length, replicate, ap, ◌∙◌, rules, arith}
use Rattle.std.proofs.lemmas.List.{length-replicate}
use Rattle.std.proofs.lemmas.List.Edits.{length-between}
use Rattle.std.proofs.lemmas.Nat.{row_fits_turned}
use Rattle.dd_geom.proofs.PaintLemmas.{length-run, painted_more}
use Rattle.dd_geom.proofs.painting.paint.Goals as goal

pub offset_bounds-cells-start : goal.offset_bounds-cells-start
offset_bounds-cells-start g c =
    let w = c.args.width in
    let row : c.loop-y.y * w + w ≤ w * c.args.height =
    row_fits_turned c.loop-y.y w w c.args.height (omega arith) (omega arith) in
    let fits : c.loop-y.y * c.args.width + c.args.sides.left ≤ length c.loop-y.cells = omega arith in
    search rules

pub loop-y-preserved : goal.loop-y-preserved
loop-y-preserved g c =
    let w = c.args.width in
    let s = c.args.sides in
    let y = c.loop-y.y in
    let n : ℕ = (y * w + s.right) - (y * w + s.left) in
    let row : y * w + w ≤ w * c.args.height = row_fits_turned y w w c.args.height (omega arith) (omega arith) in
    let run : c.paint_run.new.run ≡ replicate n c.args.value =
    c.paint_run.ensures
    ∙ ap (λ m. replicate m c.args.value)
    (length-between c.loop-y.cells (y * w + s.left) (y * w + s.right) (omega arith)) in (
      length-run (y * w + s.left) n c.loop-y.cells c.paint_run.new.run (omega arith)
          (ap length run ∙ length-replicate n c.args.value) ∙ omega arith,
      painted_more w c.args.height s y n c.args.value c.args.cells.now c.loop-y.cells c.paint_run.new.run
          (omega arith) (omega arith) (omega arith) (omega arith) (omega arith) (omega arith) run c.loop-y.invariant.1,
    )
