use Rattle.std.proofs.Common.{sym}
use Rattle.dd_log.specs.Events.{present_of}
use Rattle.dd_dup.specs.Filling.{has_row}
use Rattle.dd_dup.proofs.Fills.{present_none}
use Rattle.dd_dup.proofs.bands.draw_event_part.Goals as goal

pub returns-in-None-clause-drawn : goal.returns-in-None-clause-drawn
returns-in-None-clause-drawn c whole =
    present_none c.args.surface.now (has_row c.args.rows) (present_of c.args.event.now) (sym c.in-None.ensures) whole
