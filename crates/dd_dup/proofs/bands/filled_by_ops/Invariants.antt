use Rattle.std.proofs.Common.{◌≡◌, true, take}
use Rattle.dd_dup.specs.Filling.{are_fills}
use Rattle.dd_dup.proofs.bands.filled_by_ops.Given as goal

abbrev pub invariant-loop-op : goal.invariant-loop-op
invariant-loop-op l = are_fills (take l.op-index l.ops) ≡ true
