use Rattle.dd_log.proofs.Pictures.{since_start}
use Rattle.dd_log.proofs.laws.picture_since_start.Goals as goal

pub returns : goal.returns
returns c = since_start
