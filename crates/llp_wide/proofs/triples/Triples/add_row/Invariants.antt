use Rattle.ll1_sets.specs.Width.{width_of}
use Rattle.llp_wide.specs.Triples.{AreTriplesUpTo}
use Rattle.llp_wide.specs.WideEntries.{triple_place}
use Rattle.llp_wide.proofs.triples.Triples.add_row.Given as goal

abbrev pub invariant-loop-a : goal.invariant-loop-a
invariant-loop-a l = AreTriplesUpTo l.grammar l.layer.b l.layer.start (triple_place (width_of l.grammar) l.z l.a l.layer.b) l.self.numbers.items l.self.stacks.items
