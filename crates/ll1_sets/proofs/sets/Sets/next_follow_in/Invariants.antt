use Rattle.std.proofs.Common.{◌≡◌, ℕ, ◌<◌, ◌+◌, drop, true, false, Some, slice_get, get_or}
use Rattle.grammar_file.specs.declared.symbols.Symbol.TheVariants.{Nonterminal}
use Rattle.ll1_sets.specs.Marking.{comes_behind}
use Rattle.ll1_sets.proofs.sets.Sets.next_follow_in.Given as goal

abbrev pub invariant-loop-i : goal.invariant-loop-i
invariant-loop-i l =
    (place a : ℕ) → place < l.i → slice_get l.right place ≡ Some (Nonterminal a) → comes_behind l.self.nullable.now l.self.first.now l.self.follow.now l.self.b l.left (drop (place + 1) l.right) ≡ true → get_or l.self.follow.now a false ≡ true
