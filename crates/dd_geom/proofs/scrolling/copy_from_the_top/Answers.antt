-- A row's source lies within the cells, and copying it is one row more.
use Rattle.std.proofs.Common.{ℕ, ◌+◌, ◌-◌, length, refl, arith}
use Rattle.dd_geom.proofs.ScrollLemmas.{source_fits, copied_more}
use Rattle.dd_geom.proofs.scrolling.copy_from_the_top.Goals as goal

pub copy_run-requires-clause-source : goal.copy_run-requires-clause-source
copy_run-requires-clause-source g c =
    let s = c.args.to in
    source_fits c.args.width c.args.height (c.loop-y.y - s.top + c.args.row) c.args.column (s.right - s.left)
    (length c.loop-y.cells)
    (omega arith) (omega arith) (omega arith)

pub loop-y-preserved : goal.loop-y-preserved
loop-y-preserved g c =
    let w = c.args.width in
    let s = c.args.to in
    let y = c.loop-y.y in
    let z : ℕ = y - s.top + c.args.row in
    let copied = c.copy_run.ensures in
    let n : ℕ = s.right - s.left in (
      omega arith,
      copied_more w c.args.height s y z n c.args.column c.args.row c.args.cells.now c.loop-y.cells
          c.copy_run.new.cells
          (omega arith) (omega arith) (omega arith) (omega arith) (omega arith) (omega arith) refl
          (omega arith) (omega arith) (copied.copied, copied.below, copied.above) c.loop-y.invariant.1,
    )
