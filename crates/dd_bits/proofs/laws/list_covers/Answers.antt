use Rattle.dd_bits.proofs.Cover.{count_by-canonical_list}
use Rattle.dd_bits.proofs.laws.list_covers.Goals as goal

pub returns : goal.returns
returns c = count_by-canonical_list
