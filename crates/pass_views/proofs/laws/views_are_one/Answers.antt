use Rattle.std.proofs.Common.{false}
use Rattle.pass_views.proofs.Showing.{one_page, one_shown_text}
use Rattle.pass_views.proofs.laws.views_are_one.Goals as goal

pub returns-clause-tables : goal.returns-clause-tables
returns-clause-tables c = λ text. one_shown_text text c.one_tree_of_text.ensures c.tables_are_unique.ensures.pairs (c.one_verdict.ensures false text)

pub returns-clause-page : goal.returns-clause-page
returns-clause-page c = λ text. one_page text c.one_tree_of_text.ensures c.tables_are_unique.ensures.pairs (c.one_verdict.ensures false text)
