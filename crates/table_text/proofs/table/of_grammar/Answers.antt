use Rattle.std.proofs.Common.{ap}
use Rattle.table_text.specs.declared.answer.TableAnswer.TheVariants.{Tabled}
use Rattle.table_text.proofs.Told.{sets_make_tables, told_alone}
use Rattle.table_text.proofs.table.of_grammar.Goals as goal

pub returns-clause-answer : goal.returns-clause-answer
returns-clause-answer c =
    let grammar = c.args.grammar.now in
    told_alone grammar c.args.entries c.in_ok-text.text.items (Tabled c.new.result) (sets_make_tables grammar c.in_ok-sets.sets c.in_ok-sets.ensures.sets) c.in_ok-text.ensures (ap Tabled c.new.ensures)
