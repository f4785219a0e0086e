use Rattle.std.proofs.Common.{◌-◌, length}
use Rattle.dd_bits.specs.CanonicalList.{is_marked}
use Rattle.dd_bits.proofs.RowRuns.{IsDone}
use Rattle.dd_bits.proofs.runs.push_runs.Given as goal

abbrev pub invariant-loop-run : goal.invariant-loop-run
invariant-loop-run l =
    IsDone (is_marked l.row) (length l.row) l.top l.bottom l.from l.initial.out.items l.out.items

abbrev pub decreases-loop-run : goal.decreases-loop-run
decreases-loop-run l = length l.row - l.from
