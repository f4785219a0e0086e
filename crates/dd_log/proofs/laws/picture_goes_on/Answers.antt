use Rattle.dd_log.proofs.Pictures.{goes_on}
use Rattle.dd_log.proofs.laws.picture_goes_on.Goals as goal

pub returns : goal.returns
returns c = goes_on
