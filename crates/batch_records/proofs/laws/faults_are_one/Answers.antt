use Rattle.batch_records.proofs.Parted.{same_faults}
use Rattle.batch_records.proofs.laws.faults_are_one.Goals as goal

pub returns : goal.returns
returns c = same_faults
