use Rattle.state_monoid.specs.Explored.{AreJoined}
use Rattle.state_monoid.proofs.joins.join_all.Given as goal

abbrev pub invariant-loop-code : goal.invariant-loop-code
invariant-loop-code l = AreJoined l.explored.functions.keys l.code l.joins.items
