use Rattle.dd_dup.proofs.Frames.{stands_fresh}
use Rattle.dd_dup.proofs.duplicator.Dup.start.Goals as goal

pub returns-clause-stands : goal.returns-clause-stands
returns-clause-stands c =
    stands_fresh c.args.log.now c.args.at c.picture_start.result c.mode-mode.result c.in_ok-surface.surface
    c.in_ok-hidden.hidden c.requires.at c.picture_start.ensures.value c.mode-mode.ensures.value c.in_ok-surface.ensures
    c.in_ok-hidden.ensures
