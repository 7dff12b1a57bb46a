use Rattle.std.proofs.Common.{◌≡◌, ◌<◌, ℕ, [], ◌∷◌, length}
use Rattle.grammar_file.specs.declared.symbols.Symbol.TheVariants.{Nonterminal}
use Rattle.grammar_file.specs.Marks.{AreMarksOf}
use Rattle.llp_wide.specs.Endings.{IsLast, marks_at}
use Rattle.llp_wide.proofs.endings.endings.Given as goal

abbrev pub invariant-loop-y : goal.invariant-loop-y
invariant-loop-y l =
    record {
      count : length l.all.items ≡ l.y;
      marks : (k : ℕ) → k < l.y → AreMarksOf l.grammar (λ a. IsLast l.grammar (Nonterminal a ∷ []) k) (marks_at l.all.items k);
    }
