use Rattle.table_text.proofs.OneAnswer.{one_file_answer}
use Rattle.table_text.proofs.laws.files_have_one_answer.Goals as goal

pub returns : goal.returns
returns c = λ bytes. one_file_answer bytes (c.files_spell_one_answer.ensures.one bytes) (c.spelled_grammars_are_well_formed.ensures bytes)
    (λ g formed reduced. record {
      fault = c.grammars_have_one_answer.ensures.fault g;
      no_tables = c.grammars_have_one_answer.ensures.no_tables g formed reduced;
      count = c.grammars_have_one_answer.ensures.count g;
      wide_fault = c.wide_grammars_have_one_answer.ensures.fault g;
      no_wide_tables = c.wide_grammars_have_one_answer.ensures.no_tables g formed reduced;
      wide_count = c.wide_grammars_have_one_answer.ensures.count g;
      table = c.tables_are_unique.ensures.pairs g;
      wide_table = c.tables_are_unique.ensures.triples g;
    })
