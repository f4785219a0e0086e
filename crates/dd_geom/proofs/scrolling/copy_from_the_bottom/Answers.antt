-- A row's source lies within the cells, and copying it is one row more.
use Rattle.std.proofs.Common.{ℕ, ◌≡◌, ◌+◌, ◌-◌, ◌*◌, ◌≤◌, length, refl, sym, subst, arith, rules}
use Rattle.dd_geom.proofs.ScrollLemmas.{IsTaken, copied_at, source_fits, copied_before}
use Rattle.dd_geom.proofs.scrolling.copy_from_the_bottom.Goals as goal

pub overflow_mul-from : goal.overflow_mul-from
overflow_mul-from g c =
    let s = c.args.to in
    let z : ℕ = c.loop-y.y - 1 - s.top + c.args.row in
    let whole : z * c.args.width + c.args.column + (s.right - s.left) ≤ length c.loop-y.cells =
    source_fits c.args.width c.args.height z c.args.column (s.right - s.left) (length c.loop-y.cells)
    (omega arith) (omega arith) (omega arith) in
    let fits : (c.loop-y.y - 1 - c.args.to.top + c.args.row) * c.args.width ≤ length c.loop-y.cells = omega arith in
    search rules

pub overflow_add-from-in-loop-y : goal.overflow_add-from-in-loop-y
overflow_add-from-in-loop-y g c =
    let s = c.args.to in
    let z : ℕ = c.loop-y.y - 1 - s.top + c.args.row in
    let whole : z * c.args.width + c.args.column + (s.right - s.left) ≤ length c.loop-y.cells =
    source_fits c.args.width c.args.height z c.args.column (s.right - s.left) (length c.loop-y.cells)
    (omega arith) (omega arith) (omega arith) in
    let fits :
    (c.loop-y.y - 1 - c.args.to.top + c.args.row) * c.args.width + c.args.column ≤ length c.loop-y.cells =
    omega arith in
    search rules

pub copy_run-requires-clause-source : goal.copy_run-requires-clause-source
copy_run-requires-clause-source g c =
    let s = c.args.to in
    source_fits c.args.width c.args.height (c.loop-y.y - 1 - s.top + c.args.row) c.args.column (s.right - s.left)
    (length c.loop-y.cells)
    (omega arith) (omega arith) (omega arith)

pub loop-y-preserved : goal.loop-y-preserved
loop-y-preserved g c =
    let w = c.args.width in
    let s = c.args.to in
    let y : ℕ = c.loop-y.y - 1 in
    let z : ℕ = y - s.top + c.args.row in
    let copied = c.copy_run.ensures in
    let n : ℕ = s.right - s.left in
    let at = copied_at w s c.args.column c.args.row in
    let later : y + 1 ≡ c.loop-y.y = omega arith in (
      omega arith,
      omega arith,
      copied_before w c.args.height s y z n c.args.column c.args.row c.args.cells.now c.loop-y.cells
          c.copy_run.new.cells
          (omega arith) (omega arith) (omega arith) (omega arith) (omega arith) (omega arith) refl
          (omega arith) (omega arith) (copied.copied, copied.below, copied.above)
          (subst (λ (t : ℕ). IsTaken w (record s { top = t }) at c.args.cells.now c.loop-y.cells) (sym later)
          c.loop-y.invariant.2),
    )
