use Rattle.std.proofs.Common.{ap}
use Rattle.tree_interpreter.specs.Trees.{stmts_of}
use Rattle.tree_interpreter.proofs.Steps.{follows_none, follows_some}
use Rattle.tree_interpreter.proofs.rests.Rests.follow.Goals as goal

pub returns-in-Empty : goal.returns-in-Empty
returns-in-Empty c = follows_none _ _ (ap (λ s. stmts_of s) c.in-Empty.is)

pub returns-in_ok-push-in-Next : goal.returns-in_ok-push-in-Next
returns-in_ok-push-in-Next c = follows_some _ _ _ c.in_ok-push-in-Next.ensures
