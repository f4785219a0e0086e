use Rattle.dd_log.proofs.Legal.{has_room}
use Rattle.dd_log.proofs.laws.legal_has_room.Goals as goal

pub returns : goal.returns
returns c = has_room
