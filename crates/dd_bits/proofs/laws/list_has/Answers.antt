use Rattle.dd_bits.proofs.Has.{canonical_list-has}
use Rattle.dd_bits.proofs.laws.list_has.Goals as goal

pub returns : goal.returns
returns c = canonical_list-has
