use Rattle.dd_bits.proofs.Sorted.{IsSorted-canonical_list}
use Rattle.dd_bits.proofs.laws.list_sorted.Goals as goal

pub returns : goal.returns
returns c = IsSorted-canonical_list
