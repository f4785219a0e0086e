use Rattle.std.proofs.Common.{◌∙◌, ap}
use Rattle.dd_dup.specs.Seen.{seen_if}
use Rattle.dd_dup.proofs.forward.draw_event.Goals as goal

pub returns-in-None-clause-drawn : goal.returns-in-None-clause-drawn
returns-in-None-clause-drawn c = ap (seen_if c.args.surface.now) c.in-None.ensures

pub returns-in-Some-clause-drawn : goal.returns-in-Some-clause-drawn
returns-in-Some-clause-drawn c = c.apply_seen.ensures.drawn ∙ ap (seen_if c.args.surface.now) c.in-Some.ensures
