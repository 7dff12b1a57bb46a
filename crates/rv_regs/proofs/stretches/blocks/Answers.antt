use Rattle.std.proofs.Common.{◌/◌, length, arith}
use Rattle.par_passes.specs.Laws.Calling.{if_ok}
use Rattle.rv_regs.proofs.Blocked.{given_at}
use Rattle.rv_regs.proofs.Steps.{below}
use Rattle.rv_regs.proofs.stretches.blocks.Goals as goal

pub tabulate-requires-clause-callable : goal.tabulate-requires-clause-callable
tabulate-requires-clause-callable g c κs within = λ k d near. (c.requires.nodes, below (length c.args.kinds.now / 32) _ k d (omega arith) near)

pub returns-clause-each : goal.returns-clause-each
returns-clause-each g c = if_ok c.tabulate.result c.tabulate.ensures.each (λ v gives. given_at _ _ v.items gives)
