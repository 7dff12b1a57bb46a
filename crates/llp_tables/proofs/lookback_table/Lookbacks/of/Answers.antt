use Rattle.llp_tables.proofs.Ll1Faults.{table_fault}
use Rattle.llp_tables.proofs.lookback_table.Lookbacks.of.Goals as goal

pub returns-in_err-sets-clause-fault : goal.returns-in_err-sets-clause-fault
returns-in_err-sets-clause-fault c = table_fault c.args.grammar.now _ c.from_residual.result c.in_err-sets.ensures.fault c.from_residual.ensures.1
