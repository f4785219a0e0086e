use Rattle.std.proofs.Common.{◌≡◌, ◌++◌, length, take}
use Rattle.dd_acc.specs.Effects.{effects, moves_in, dirtied}
use Rattle.dd_acc.proofs.interval.add_effects.Given as goal

abbrev pub invariant-loop-op : goal.invariant-loop-op
invariant-loop-op g l =
    (g.A.Area.points l.area ≡ dirtied (g.A.Area.points l.fn.area) (effects (length l.fn.moves) (take l.op-index l.ops)))
    × (l.moves ≡ l.fn.moves ++ moves_in (effects (length l.fn.moves) (take l.op-index l.ops)))
