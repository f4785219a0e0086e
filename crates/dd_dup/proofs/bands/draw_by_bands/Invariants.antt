use Rattle.std.proofs.Common.{◌≡◌, ◌≤◌, ◌-◌}
use Rattle.dd_geom.specs.Grid.{SameSize}
use Rattle.dd_dup.specs.Filling.{in_rows, entries_at}
use Rattle.dd_dup.proofs.Fills.{above}
use Rattle.dd_dup.proofs.bands.draw_by_bands.Given as goal

abbrev pub invariant-loop-top : goal.invariant-loop-top
invariant-loop-top l =
    (l.surface ≡ in_rows l.fn.surface (above l.top) (entries_at l.entries)) × (l.top ≤ l.height)
    × SameSize l.fn.surface l.surface

abbrev pub decreases-loop-top : goal.decreases-loop-top
decreases-loop-top l = l.height - l.top
