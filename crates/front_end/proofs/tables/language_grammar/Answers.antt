use Rattle.source_meaning.specs.Grammar.{grammar}
use Rattle.front_end.proofs.Spelled.{read_is}
use Rattle.front_end.proofs.tables.language_grammar.Goals as goal

pub returns-in-Ok : goal.returns-in-Ok
returns-in-Ok c = read_is _ c.in-Ok.grammar grammar c.in-Ok.ensures.reads.0 c.grammar_is_spelled.ensures c.in-Ok.ensures.reads.1
