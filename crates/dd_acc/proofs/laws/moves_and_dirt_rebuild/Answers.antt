use Rattle.dd_acc.proofs.Rebuilding.{rebuilds}
use Rattle.dd_acc.proofs.laws.moves_and_dirt_rebuild.Goals as goal

pub returns : goal.returns
returns c = rebuilds
