use Rattle.ll1_sets.specs.Width.{width_of}
use Rattle.llp_wide.specs.Triples.{AreTriplesUpTo}
use Rattle.llp_wide.specs.WideEntries.{triple_place}
use Rattle.llp_wide.proofs.triples.Triples.add_layer.Given as goal

abbrev pub invariant-loop-z : goal.invariant-loop-z
invariant-loop-z l = AreTriplesUpTo l.grammar l.b l.start (triple_place (width_of l.grammar) l.z 0 l.b) l.self.numbers.items l.self.stacks.items
