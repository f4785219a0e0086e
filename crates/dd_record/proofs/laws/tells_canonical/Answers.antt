use Rattle.dd_record.proofs.Canonical.{tells_canonical}
use Rattle.dd_record.proofs.laws.tells_canonical.Goals as goal

pub returns : goal.returns
returns c = tells_canonical
