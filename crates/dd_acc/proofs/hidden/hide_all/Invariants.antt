-- The set is the one after the operations so far, and of the same size.
use Rattle.std.proofs.Common.{◌≡◌, take}
use Rattle.dd_geom.specs.Grid.{SameSize}
use Rattle.dd_acc.specs.Hidden.{hidden_after}
use Rattle.dd_acc.proofs.hidden.hide_all.Given as goal

abbrev pub invariant-loop-op : goal.invariant-loop-op
invariant-loop-op g l = record {
  so_far : g.A.Area.points l.area ≡ hidden_after (g.A.Area.points l.fn.area) (take l.op-index l.ops);
  size : SameSize (g.A.Area.points l.fn.area) (g.A.Area.points l.area);
}
