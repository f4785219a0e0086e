use Rattle.std.proofs.Common.{◌≡◌, map}
use Rattle.std.specs.List.{range_with_len}
use Rattle.dd_geom.specs.Grid.{row}
use Rattle.dd_dup.proofs.calls.rows_of.Given as goal

abbrev pub invariant-loop-y : goal.invariant-loop-y
invariant-loop-y l = l.items.items ≡ map (row l.surface) (range_with_len 0 l.y)
