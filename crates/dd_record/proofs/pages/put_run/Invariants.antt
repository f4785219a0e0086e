-- The pixels so far were written or are kept, and those from this place on are still to come.
use Rattle.dd_record.specs.Pages.{run_bytes}
use Rattle.dd_record.specs.Sinks.{change}
use Rattle.dd_record.proofs.Written.{SoFar}
use Rattle.dd_record.proofs.pages.put_run.Given as goal

abbrev pub invariant-loop-x : goal.invariant-loop-x
invariant-loop-x g l =
    SoFar (change g.K.Sink.held g.K.Sink.faults l.fn.k l.k) l.fn.kept.items l.kept.items
    (run_bytes l.row l.x l.right) (run_bytes l.row l.left l.right)
