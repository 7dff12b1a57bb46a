use Rattle.std.proofs.Common.{◌∙◌, subst}
use Rattle.table_text.specs.ByLookback.{IsWordFault}
use Rattle.table_text.proofs.Told.{sets_make_tables, told_parse, told_place}
use Rattle.table_text.proofs.table.of_word.Goals as goal

pub returns-in-Ok-clause-answer : goal.returns-in-Ok-clause-answer
returns-in-Ok-clause-answer g c =
    let grammar = c.args.grammar.now in
    let told = c.in_ok-parsed-in-Ok.ensures in
    told_parse grammar c.args.entries c.args.word.now c.as_slice.result.now c.in-Ok.productions.items c.as_slice-in-Ok.result.now told.0 c.in_ok-parsed-in-Ok.field-0
    (sets_make_tables grammar c.in_ok-sets.sets c.in_ok-sets.ensures.sets) told.1 (c.as_slice.ensures.value ∙ c.in_ok-tokens.ensures)
    c.in-Ok.ensures.ok c.as_slice-in-Ok.ensures.value told.2

pub returns-in-Err-Syntax-clause-answer : goal.returns-in-Err-Syntax-clause-answer
returns-in-Err-Syntax-clause-answer g c =
    let grammar = c.args.grammar.now in
    rw c.in-Err-Syntax.field-0-is (told_place grammar c.args.entries c.args.word.now c.as_slice.result.now c.in-Err-Syntax.at (sets_make_tables grammar c.in_ok-sets.sets c.in_ok-sets.ensures.sets)
    (c.as_slice.ensures.value ∙ c.in_ok-tokens.ensures) (subst (IsWordFault grammar c.as_slice.result.now) c.in-Err-Syntax.field-0-is c.in-Err-Syntax.ensures.fault))
