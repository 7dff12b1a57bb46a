use Rattle.std.proofs.Common.{[], ◌∷◌, sym, subst}
use Rattle.grammar_file.specs.declared.symbols.Symbol.TheVariants.{Nonterminal}
use Rattle.grammar_file.specs.Marks.{AreMarksOf}
use Rattle.ll1_sets.specs.Predict.{IsFirst}
use Rattle.llp_wide.proofs.triples.classes_on.Goals as goal

pub members_on-requires-clause-first : goal.members_on-requires-clause-first
members_on-requires-clause-first c =
    let g = c.args.grammar.now in
    subst (AreMarksOf g (λ a. IsFirst g (Nonterminal a ∷ []) c.args.b)) (sym c.first.ensures) (c.requires.sets.table.columns c.args.b c.column.result.now c.column.ensures).first
