use Rattle.std.proofs.Common.{refl}
use Rattle.source_meaning.specs.Grammar.{grammar}
use Rattle.verdict.proofs.OneVerdict.{same_tree}
use Rattle.verdict.proofs.laws.one_tree_of_text.Goals as goal

pub returns : goal.returns
returns c = same_tree (c.ll1_is_unambiguous.ensures.left_parse grammar (c.g2_is_ll1_and_llp.ensures grammar c.grammar_is_spelled.ensures refl).0)
