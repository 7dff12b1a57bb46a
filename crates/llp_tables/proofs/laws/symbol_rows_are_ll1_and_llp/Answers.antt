use Rattle.llp_tables.proofs.Accepted.{accepted_ll1, accepted_llp}
use Rattle.llp_tables.proofs.laws.symbol_rows_are_ll1_and_llp.Goals as goal

pub returns-clause-ll1 : goal.returns-clause-ll1
returns-clause-ll1 c = accepted_ll1

pub returns-clause-llp : goal.returns-clause-llp
returns-clause-llp c = accepted_llp
