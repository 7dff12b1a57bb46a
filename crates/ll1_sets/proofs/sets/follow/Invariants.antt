use Rattle.std.proofs.Common.{◌≡◌, ℕ, length, true, false, get_or}
use Rattle.grammar_file.specs.Grammar.{end_mark}
use Rattle.grammar_file.specs.Laws.Marks.{unmarked}
use Rattle.ll1_sets.specs.Predict.{IsFollow}
use Rattle.ll1_sets.proofs.sets.follow.Given as goal

abbrev pub invariant-loop-a : goal.invariant-loop-a
invariant-loop-a l =
    record {
      len : length l.marks.items ≡ length l.grammar.nonterminals;
      start : end_mark l.grammar ≡ l.b → get_or l.marks.items 0 false ≡ true;
      sound : (x : ℕ) → get_or l.marks.items x false ≡ true → IsFollow l.grammar x l.b;
    }

abbrev pub decreases-loop-a : goal.decreases-loop-a
decreases-loop-a l = unmarked l.marks.items
