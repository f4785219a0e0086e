use Rattle.std.proofs.Common.{◌≡◌, take}
use Rattle.dd_geom.specs.Grid.{SameSize}
use Rattle.dd_dup.specs.Seen.{seen_shown}
use Rattle.dd_dup.proofs.forward.draw_in_order.Given as goal

abbrev pub invariant-loop-entry : goal.invariant-loop-entry
invariant-loop-entry l =
    (l.surface ≡ seen_shown l.fn.surface (take l.entry-index l.entries)) × SameSize l.fn.surface l.surface
