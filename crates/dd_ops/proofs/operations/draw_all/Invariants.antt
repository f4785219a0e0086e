use Rattle.std.proofs.Common.{◌≡◌, take}
use Rattle.dd_geom.specs.Grid.{SameSize}
use Rattle.dd_ops.specs.Operations.{drawn}
use Rattle.dd_ops.proofs.operations.draw_all.Given as goal

abbrev pub invariant-loop-op : goal.invariant-loop-op
invariant-loop-op l =
    (l.p ≡ drawn l.fn.p (take l.op-index l.ops)) × SameSize l.fn.p l.p
