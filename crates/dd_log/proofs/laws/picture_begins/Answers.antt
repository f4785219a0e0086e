use Rattle.dd_log.proofs.Pictures.{begins_black}
use Rattle.dd_log.proofs.laws.picture_begins.Goals as goal

pub returns : goal.returns
returns c = begins_black
