-- The blocks that the loop has passed are copied, and all else is as it was.
use Rattle.std.proofs.Common.{◌-◌, ◌≤◌}
use Rattle.dd_geom.proofs.ScrollLemmas.{IsRunCopied}
use Rattle.dd_geom.proofs.scrolling.copy_blocks_forward.Given as goal

abbrev pub invariant-loop-done : goal.invariant-loop-done
invariant-loop-done g l = (l.done ≤ l.size) × IsRunCopied l.from l.to l.done l.fn.cells l.cells

abbrev pub decreases-loop-done : goal.decreases-loop-done
decreases-loop-done g l = l.size - l.done
