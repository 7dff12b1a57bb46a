use Rattle.folding.proofs.Words.{unary_word, binary_word, program_has}
use Rattle.folding.proofs.laws.values_are_words.Goals as goal

pub returns-clause-unary : goal.returns-clause-unary
returns-clause-unary c = unary_word

pub returns-clause-binary : goal.returns-clause-binary
returns-clause-binary c = binary_word

pub returns-clause-constants : goal.returns-clause-constants
returns-clause-constants c = program_has
