use Rattle.dd_playback.proofs.WholeRecord.{records_are_viewed}
use Rattle.dd_playback.proofs.records.records_are_viewed.Goals as goal

pub returns : goal.returns
returns c = records_are_viewed
