use Rattle.std.proofs.Common.{refl}
use Rattle.tree_interpreter.proofs.Numbered.{otherwise_numbered}
use Rattle.tree_interpreter.proofs.rests.Branches.otherwise.Goals as goal

pub invariant_of-result : goal.invariant_of-result
invariant_of-result c = record { numbered = (otherwise_numbered c.args.self _ c.parts_of.ensures.1).0 }

pub returns : goal.returns
returns c = (refl, (otherwise_numbered c.args.self _ c.parts_of.ensures.1).1)
