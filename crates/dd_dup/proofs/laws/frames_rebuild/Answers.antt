use Rattle.dd_dup.proofs.Frames.{rebuilds}
use Rattle.dd_dup.proofs.laws.frames_rebuild.Goals as goal

pub returns : goal.returns
returns c = rebuilds
