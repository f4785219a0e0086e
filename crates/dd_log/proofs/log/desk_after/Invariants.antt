-- The desk of what was read so far.
use Rattle.std.proofs.Common.{◌≡◌, take}
use Rattle.dd_geom.specs.Rect.{IsSize}
use Rattle.dd_log.specs.Desk.{desk_of}
use Rattle.dd_log.proofs.log.desk_after.Given as goal

abbrev pub invariant-loop-entry : goal.invariant-loop-entry
invariant-loop-entry l =
    (l.desk ≡ desk_of l.spec.modes (take l.entry-index l.entries)) × IsSize l.desk.mode.width l.desk.mode.height
