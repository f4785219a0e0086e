-- The rows so far were written or are kept, and those from this one on are still to come.
use Rattle.dd_record.specs.Pages.{pieces, run_bytes, row_at, block_bytes}
use Rattle.dd_record.specs.Sinks.{change}
use Rattle.dd_record.proofs.Written.{SoFar}
use Rattle.dd_record.proofs.pages.put_block.Given as goal

abbrev pub invariant-loop-y : goal.invariant-loop-y
invariant-loop-y g l =
    SoFar (change g.K.Sink.held g.K.Sink.faults l.fn.k l.k) l.fn.kept.items l.kept.items
    (pieces (λ y. run_bytes (row_at l.surface y) l.sides.left l.sides.right) l.y l.sides.bottom)
    (block_bytes l.surface l.sides)
