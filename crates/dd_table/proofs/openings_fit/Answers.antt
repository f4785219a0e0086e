use Rattle.dd_table.proofs.Openings.{openings_fit}
use Rattle.dd_table.proofs.openings_fit.Goals as goal

pub returns : goal.returns
returns c = openings_fit
