use Rattle.verdict.proofs.OneVerdict.{no_tree}
use Rattle.verdict.proofs.laws.syntax_errors_leave_no_tree.Goals as goal

pub returns : goal.returns
returns c = no_tree
