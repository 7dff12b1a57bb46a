use Rattle.rv_text.proofs.Exact.{exact}
use Rattle.rv_text.proofs.assembler.assemble.Goals as goal

pub returns-clause-exactly : goal.returns-clause-exactly
returns-clause-exactly c = exact c.args.text.now c.words_or_fault.result (λ v. v.items) c.words_or_fault.ensures.ok c.words_or_fault.ensures.fault
