use Rattle.std.proofs.Common.{◌≡◌, take}
use Rattle.dd_geom.specs.Grid.{SameSize}
use Rattle.dd_dup.specs.Filling.{IsWhole, has_row, in_rows, entries_at}
use Rattle.dd_dup.proofs.bands.draw_band.Given as goal

abbrev pub invariant-loop-entry : goal.invariant-loop-entry
invariant-loop-entry l =
    (IsWhole l.fn.surface
    → l.surface ≡ in_rows l.fn.surface (has_row l.rows) (entries_at (take l.entry-index l.entries)))
    × SameSize l.fn.surface l.surface
