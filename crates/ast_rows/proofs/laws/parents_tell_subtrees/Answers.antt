-- The law `parents_tell_subtrees`, by its lemmas.
use Rattle.ast_rows.specs.Laws.Subtrees.{counts_told, lows_told}
use Rattle.ast_rows.proofs.laws.parents_tell_subtrees.Goals as goal

pub returns-clause-lows : goal.returns-clause-lows
returns-clause-lows c = lows_told

pub returns-clause-counts : goal.returns-clause-counts
returns-clause-counts c = counts_told
