use Rattle.llp_wide.proofs.WideFaultsTold.{wide_fault_told, wide_memory_told}
use Rattle.llp_wide.proofs.wide_table.WideTables.build.Goals as goal

pub returns-in_err-sets-clause-fault : goal.returns-in_err-sets-clause-fault
returns-in_err-sets-clause-fault c = wide_fault_told c.args.grammar.now _ c.from_residual.result c.in_err-sets.ensures.fault c.from_residual.ensures.1

pub returns-in_err-sets-clause-tabled : goal.returns-in_err-sets-clause-tabled
returns-in_err-sets-clause-tabled c = λ t are. wide_memory_told _ c.from_residual.result (c.in_err-sets.ensures.served are.tables.ll1) c.from_residual.ensures.1
