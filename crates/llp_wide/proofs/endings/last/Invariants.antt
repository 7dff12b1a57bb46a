use Rattle.std.proofs.Common.{◌≡◌, ℕ, [], ◌∷◌, length, true, false, get_or}
use Rattle.grammar_file.specs.declared.symbols.Symbol.TheVariants.{Nonterminal}
use Rattle.grammar_file.specs.Laws.Marks.{unmarked}
use Rattle.llp_wide.specs.Endings.{IsLast}
use Rattle.llp_wide.proofs.endings.last.Given as goal

abbrev pub invariant-loop-a : goal.invariant-loop-a
invariant-loop-a l = record { len : length l.marks.items ≡ length l.grammar.nonterminals; sound : (x : ℕ) → get_or l.marks.items x false ≡ true → IsLast l.grammar (Nonterminal x ∷ []) l.y }

abbrev pub decreases-loop-a : goal.decreases-loop-a
decreases-loop-a l = unmarked l.marks.items
