use Rattle.grammar_file.specs.declared.symbols.Symbol.TheVariants.{Nonterminal}
use Rattle.llp_tables.specs.Forced.{Passes}
use Rattle.llp_tables.specs.Waiting.{Adds}
use Rattle.llp_tables.proofs.PlaceAdds.{ByRules}
use Rattle.llp_tables.proofs.pending.Passed.add_all.Given as goal

abbrev pub invariant-loop-i : goal.invariant-loop-i
invariant-loop-i l = Adds (ByRules (Passes l.self.nullable.now (Nonterminal l.self.a) l.self.below.now) l.productions l.i) l.initial.pending.items l.pending.items
