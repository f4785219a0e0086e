use Rattle.dd_gen.proofs.Every.{scripts_are_made}
use Rattle.dd_gen.proofs.laws.scripts_are_made.Goals as goal

pub returns : goal.returns
returns c = scripts_are_made
