use Rattle.batch_records.specs.Batch.{too_large}
use Rattle.batch_records.proofs.reading.read_records.Goals as goal

pub returns-then-input-gt-MOST_BYTES-clause-fault : goal.returns-then-input-gt-MOST_BYTES-clause-fault
returns-then-input-gt-MOST_BYTES-clause-fault c = too_large c.if-input-gt-MOST_BYTES.true
