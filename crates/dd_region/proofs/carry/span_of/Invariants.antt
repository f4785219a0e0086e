-- The span holds the runs of the bands before the next one.
use Rattle.std.proofs.Common.{◌+◌, ◌-◌, ◌≤◌, ◌<◌, length}
use Rattle.std.specs.List.{AllWithin}
use Rattle.dd_region.specs.Carry.{IsInSpan}
use Rattle.dd_region.proofs.carry.span_of.Given as goal

abbrev pub invariant-loop-next : goal.invariant-loop-next
invariant-loop-next l = record {
  order : l.start ≤ l.end;
  within : l.end ≤ length l.old.runs.items;
  some : l.first < l.next;
  passed : l.next ≤ l.last + 1;
  all : AllWithin (IsInSpan (record { start = l.start; end = l.end })) l.old.bands.items l.first l.next;
}

abbrev pub decreases-loop-next : goal.decreases-loop-next
decreases-loop-next l = l.last + 1 - l.next
