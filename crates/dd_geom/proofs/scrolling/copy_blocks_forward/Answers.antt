-- A block is copied after those before it, and the last ends the run.
use Rattle.std.proofs.Common.{refl, arith}
use Rattle.dd_geom.proofs.ScrollLemmas.{run_none, run_after}
use Rattle.dd_geom.proofs.scrolling.copy_blocks_forward.Goals as goal

pub loop-done-init : goal.loop-done-init
loop-done-init g c = (omega arith, run_none c.args.from c.args.to 0 c.args.cells.now refl)

pub loop-done-preserved : goal.loop-done-preserved
loop-done-preserved g c =
    let copied = c.copy_run.ensures in (
      omega arith,
      run_after c.args.from c.args.to c.loop-done.done c.min-count.result c.args.cells.now c.loop-done.cells
          c.copy_run.new.cells
          (omega arith) c.loop-done.invariant.1 (copied.copied, copied.below, copied.above),
    )

pub returns-clause-copied : goal.returns-clause-copied
returns-clause-copied g c = λ k d from to. c.loop-done.invariant.1.0 k d from (omega arith)

pub returns-clause-below : goal.returns-clause-below
returns-clause-below g c = c.loop-done.invariant.1.1

pub returns-clause-above : goal.returns-clause-above
returns-clause-above g c = λ k d above. c.loop-done.invariant.1.2 k d (omega arith)
