use Rattle.dd_record.proofs.Within.{bad_has_come}
use Rattle.dd_record.proofs.laws.bad_has_come.Goals as goal

pub returns : goal.returns
returns c = bad_has_come
