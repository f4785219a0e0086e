use Rattle.dd_record.proofs.FrameBack.{reads_what_is_written}
use Rattle.dd_record.proofs.laws.reads_what_is_written.Goals as goal

pub returns : goal.returns
returns c = reads_what_is_written
