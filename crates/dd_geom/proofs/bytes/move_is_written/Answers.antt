use Rattle.dd_geom.proofs.ByteLemmas.{move_is_written}
use Rattle.dd_geom.proofs.bytes.move_is_written.Goals as goal

pub returns : goal.returns
returns c = move_is_written
