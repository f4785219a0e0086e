use Rattle.dd_dup.proofs.Frames.{reached}
use Rattle.dd_dup.proofs.laws.frames_are_reached.Goals as goal

pub returns : goal.returns
returns c = reached
