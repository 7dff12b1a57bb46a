use Rattle.llp_wide.proofs.WideFaultsTold.{wide_fault_told, wide_memory_told}
use Rattle.llp_wide.proofs.lookback_table.WideLookbacks.of.Goals as goal

pub returns-in_err-sets-clause-fault : goal.returns-in_err-sets-clause-fault
returns-in_err-sets-clause-fault c = wide_fault_told c.args.grammar.now _ c.from_residual.result c.in_err-sets.ensures.fault c.from_residual.ensures.1

pub returns-in_err-sets-clause-served : goal.returns-in_err-sets-clause-served
returns-in_err-sets-clause-served c = λ ll1 llp. wide_memory_told _ c.from_residual.result (c.in_err-sets.ensures.served ll1) c.from_residual.ensures.1
