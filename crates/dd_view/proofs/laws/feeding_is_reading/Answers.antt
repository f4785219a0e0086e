use Rattle.dd_view.proofs.Feeding.{feeding_is_reading}
use Rattle.dd_view.proofs.laws.feeding_is_reading.Goals as goal

pub returns : goal.returns
returns c = feeding_is_reading
