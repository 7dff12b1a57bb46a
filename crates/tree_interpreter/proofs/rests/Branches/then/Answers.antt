use Rattle.std.proofs.Common.{refl}
use Rattle.tree_interpreter.proofs.Numbered.{then_numbered}
use Rattle.tree_interpreter.proofs.rests.Branches.then.Goals as goal

pub invariant_of-result : goal.invariant_of-result
invariant_of-result c = record { numbered = (then_numbered c.args.self _ c.parts_of.ensures.0).0 }

pub returns : goal.returns
returns c = (refl, (then_numbered c.args.self _ c.parts_of.ensures.0).1)
