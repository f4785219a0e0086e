use Rattle.dd_geom.proofs.ByteLemmas.{move_is_read}
use Rattle.dd_geom.proofs.bytes.move_is_read.Goals as goal

pub returns : goal.returns
returns c = move_is_read
