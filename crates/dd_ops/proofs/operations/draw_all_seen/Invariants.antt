use Rattle.std.proofs.Common.{◌≡◌, take}
use Rattle.dd_geom.specs.Grid.{SameSize}
use Rattle.dd_ops.specs.Operations.{seen_drawn}
use Rattle.dd_ops.proofs.operations.draw_all_seen.Given as goal

abbrev pub invariant-loop-op : goal.invariant-loop-op
invariant-loop-op l =
    (l.s ≡ seen_drawn l.fn.s (take l.op-index l.ops)) × SameSize l.fn.s l.s
