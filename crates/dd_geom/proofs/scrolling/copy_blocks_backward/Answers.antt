-- A block is copied before those after it, and the first ends the run.
use Rattle.std.proofs.Common.{ℕ, ◌≡◌, ◌+◌, ◌-◌, get_or, ap, ◌∙◌, arith}
use Rattle.dd_geom.proofs.ScrollLemmas.{run_none, run_before}
use Rattle.dd_geom.proofs.scrolling.copy_blocks_backward.Goals as goal

pub loop-left-init : goal.loop-left-init
loop-left-init g c = (
  omega arith,
  run_none (c.args.from + c.args.size) (c.args.to + c.args.size) (c.args.size - c.args.size) c.args.cells.now
      (omega arith),
)

pub loop-left-preserved : goal.loop-left-preserved
loop-left-preserved g c =
    let copied = c.copy_run.ensures in
    let n = c.min-count.result in
    let rest : ℕ = c.loop-left.left - n in (
      omega arith,
      run_before (c.args.from + rest) (c.args.to + rest) (c.args.size - c.loop-left.left) n
          (c.args.from + c.loop-left.left) (c.args.to + c.loop-left.left) (c.args.size - rest)
          c.args.cells.now c.loop-left.cells c.copy_run.new.cells
          (omega arith) (omega arith) (omega arith) (omega arith)
          c.loop-left.invariant.1 (copied.copied, copied.below, copied.above),
    )

pub returns-clause-copied : goal.returns-clause-copied
returns-clause-copied g c =
    let from = c.args.from in
    let to = c.args.to in
    let left = c.loop-left.left in
    λ k d above below.
    let source : from + left + (k - (to + left)) ≡ from + (k - to) = omega arith in
    c.loop-left.invariant.1.0 k d (omega arith) (omega arith) ∙ ap (λ i. get_or c.args.cells.now i d) source
