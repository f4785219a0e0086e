use Rattle.dd_playback.proofs.WholeRecord.{records_show_frames}
use Rattle.dd_playback.proofs.records.records_show_frames.Goals as goal

pub returns : goal.returns
returns c = records_show_frames
