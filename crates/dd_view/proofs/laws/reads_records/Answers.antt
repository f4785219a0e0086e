use Rattle.dd_view.proofs.WholeRecords.{reads_records}
use Rattle.dd_view.proofs.laws.reads_records.Goals as goal

pub returns : goal.returns
returns c = reads_records
