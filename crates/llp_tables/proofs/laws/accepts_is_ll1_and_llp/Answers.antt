use Rattle.llp_tables.proofs.Translation.{symbol_rows}
use Rattle.llp_tables.proofs.Passing.{passes}
use Rattle.llp_tables.proofs.laws.accepts_is_ll1_and_llp.Goals as goal

pub returns-clause-ll1 : goal.returns-clause-ll1
returns-clause-ll1 c = λ k g ok good. c.symbol_rows_are_ll1_and_llp.ensures.ll1 (symbol_rows k g) g (passes k g ok good)

pub returns-clause-llp : goal.returns-clause-llp
returns-clause-llp c = λ k g ok good. c.symbol_rows_are_ll1_and_llp.ensures.llp (symbol_rows k g) g (passes k g ok good)
