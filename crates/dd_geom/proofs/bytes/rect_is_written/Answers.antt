use Rattle.dd_geom.proofs.ByteLemmas.{rect_is_written}
use Rattle.dd_geom.proofs.bytes.rect_is_written.Goals as goal

pub returns : goal.returns
returns c = rect_is_written
