use Rattle.dd_playback.proofs.Granted.{made_granted}
use Rattle.dd_playback.proofs.made_scripts.made_scripts_are_granted.Goals as goal

pub returns : goal.returns
returns c = made_granted
