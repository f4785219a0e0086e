-- The end as numbers of 64 bits give it.
use Rattle.std.proofs.Common.{arith}
use Rattle.std.proofs.lemmas.Int.{ints}
use Rattle.dd_geom.proofs.rect.source_end.Goals as goal

pub returns : goal.returns
returns c = omega (arith, ints)
