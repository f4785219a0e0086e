use Rattle.dd_bits.proofs.Cover.{All-canonical_list}
use Rattle.dd_bits.proofs.laws.list_inside.Goals as goal

pub returns : goal.returns
returns c = All-canonical_list
