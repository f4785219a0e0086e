use Rattle.dd_bits.proofs.Tells.{canonical_list-tells}
use Rattle.dd_bits.proofs.laws.list_tells.Goals as goal

pub returns : goal.returns
returns c = canonical_list-tells
