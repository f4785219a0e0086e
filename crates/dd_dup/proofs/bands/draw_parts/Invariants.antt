use Rattle.std.proofs.Common.{◌≡◌, take}
use Rattle.dd_geom.specs.Grid.{SameSize}
use Rattle.dd_dup.specs.Filling.{IsWhole, has_row, in_rows, ops_at}
use Rattle.dd_dup.proofs.bands.draw_parts.Given as goal

abbrev pub invariant-loop-op : goal.invariant-loop-op
invariant-loop-op l =
    (IsWhole l.fn.surface → l.surface ≡ in_rows l.fn.surface (has_row l.rows) (ops_at (take l.op-index l.ops)))
    × SameSize l.fn.surface l.surface
