-- What gluing gives for the word between its marks is the word's left parse.
use Rattle.std.proofs.lemmas.Result.{IfOk-weaker}
use Rattle.llp_glue.proofs.gluing.parse_wide.Goals as goal

pub returns-clause-ok : goal.returns-clause-ok
returns-clause-ok g c = IfOk-weaker c.glue_word.result _ _ (λ v is. c.wide_tables_make_the_parse.ensures.ok c.args.tables.now c.args.word.now v.items is) c.glue_word.ensures.ok
