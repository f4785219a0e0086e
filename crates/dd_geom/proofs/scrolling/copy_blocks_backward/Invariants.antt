-- The blocks that the loop has passed are copied, and all else is as it was.
use Rattle.std.proofs.Common.{◌+◌, ◌-◌, ◌≤◌}
use Rattle.dd_geom.proofs.ScrollLemmas.{IsRunCopied}
use Rattle.dd_geom.proofs.scrolling.copy_blocks_backward.Given as goal

abbrev pub invariant-loop-left : goal.invariant-loop-left
invariant-loop-left g l =
    (l.left ≤ l.size) × IsRunCopied (l.from + l.left) (l.to + l.left) (l.size - l.left) l.fn.cells l.cells

abbrev pub decreases-loop-left : goal.decreases-loop-left
decreases-loop-left g l = l.left
