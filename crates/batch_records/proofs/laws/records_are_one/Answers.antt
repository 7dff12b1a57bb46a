use Rattle.batch_records.proofs.Parted.{same_records}
use Rattle.batch_records.proofs.laws.records_are_one.Goals as goal

pub returns : goal.returns
returns c = same_records
