use Rattle.dd_record.proofs.FrameRules.{frames_keep_rules}
use Rattle.dd_record.proofs.laws.frames_keep_rules.Goals as goal

pub returns : goal.returns
returns c = frames_keep_rules
