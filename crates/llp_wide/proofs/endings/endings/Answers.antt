use Rattle.std.proofs.Common.{ℕ, ◌+◌, ◌<◌, [], ◌∷◌, subst, sym, List}
use Rattle.grammar_file.specs.declared.symbols.Symbol.TheVariants.{Nonterminal}
use Rattle.grammar_file.specs.Marks.{AreMarksOf}
use Rattle.llp_wide.specs.declared.endings.LastMarks.{LastMarks}
use Rattle.llp_wide.specs.Endings.{IsLast, marks_at}
use Rattle.llp_wide.proofs.SpotLists.{marks_more, length_more}
use Rattle.llp_wide.proofs.endings.endings.Goals as goal

pub loop-y-preserved : goal.loop-y-preserved
loop-y-preserved c =
    let e : LastMarks = record { marks = c.in_ok-marks.marks } in
    let grown = c.in_ok-push.ensures.items in
    record {
      count = length_more c.loop-y.all.items c.push.new.self.items e c.loop-y.y c.loop-y.invariant.count grown;
      marks = subst (λ (xs : List LastMarks). (k : ℕ) → k < c.loop-y.y + 1 → AreMarksOf c.args.grammar.now (λ a. IsLast c.args.grammar.now (Nonterminal a ∷ []) k) (marks_at xs k)) (sym grown)
          (marks_more c.args.grammar.now c.loop-y.all.items e c.loop-y.y c.loop-y.invariant.count c.loop-y.invariant.marks c.in_ok-marks.ensures);
    }
