use Rattle.ll1_sets.specs.Conflicts.{ArePredictedTo}
use Rattle.ll1_sets.proofs.sets.Sets.predicted.Given as goal

abbrev pub invariant-loop-i : goal.invariant-loop-i
invariant-loop-i l = ArePredictedTo l.self.grammar.now l.i l.self.b l.found.predictions.items l.found.conflict
