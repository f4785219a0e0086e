use Rattle.dd_record.proofs.Staying.{reading_stays}
use Rattle.dd_record.proofs.laws.reading_stays.Goals as goal

pub returns : goal.returns
returns c = reading_stays
