use Rattle.dd_playback.proofs.Played.{records_play_back}
use Rattle.dd_playback.proofs.records.records_play_back.Goals as goal

pub returns : goal.returns
returns c = records_play_back
