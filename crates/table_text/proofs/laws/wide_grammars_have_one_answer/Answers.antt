use Rattle.table_text.proofs.WideAnswers.{one_fault, fault_or_tables, one_count}
use Rattle.table_text.proofs.laws.wide_grammars_have_one_answer.Goals as goal

pub returns : goal.returns
returns c = record {
  fault = λ g. one_fault g (c.grammars_have_one_answer.ensures.fault g);
  no_tables = λ g formed reduced f k ll1. fault_or_tables g (c.ll1_has_no_left_recursion.ensures g ll1 formed reduced) f k ll1;
  count = one_count;
}
