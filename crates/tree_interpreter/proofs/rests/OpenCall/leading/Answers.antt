use Rattle.tree_interpreter.proofs.AtOnce.{leads_more}
use Rattle.tree_interpreter.proofs.rests.OpenCall.leading.Goals as goal

pub loop-others-preserved : goal.loop-others-preserved
loop-others-preserved c = let one = rw c.in-Some.is at c.first_done.ensures in leads_more c.args.self.now _ _ _ _ _ c.loop-others.invariant one.0
