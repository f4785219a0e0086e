use Rattle.std.proofs.Common.{◌≡◌, take}
use Rattle.dd_ops.proofs.lists.copies.Given as goal

abbrev pub invariant-loop-op : goal.invariant-loop-op
invariant-loop-op l = l.items.items ≡ take l.op-index l.ops
