use Rattle.batch_records.proofs.Parted.{fault_or_batch}
use Rattle.batch_records.proofs.laws.fault_or_records.Goals as goal

pub returns : goal.returns
returns c = fault_or_batch
