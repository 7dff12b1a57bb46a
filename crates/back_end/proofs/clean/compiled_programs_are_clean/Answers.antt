use Rattle.std.proofs.Common.{ℕ, Bool, true, false, List, length}
use Rattle.source_meaning.specs.Grammar.{Tree, Prog, ast}
use Rattle.source_meaning.specs.Lexemes.{tokens}
use Rattle.front_end.specs.Front.{IsChecked}
use Rattle.verdict.specs.Verdict.{folded_if}
use Rattle.back_end.specs.Coded.{IsClean}
use Rattle.back_end.proofs.clean.compiled_programs_are_clean.Goals as goal

pub returns : goal.returns
returns c = go
  where
    go : (fold : Bool) (text : List ℕ) (t : Tree Prog) → IsChecked text t → IsClean (length (tokens text)) (folded_if fold (ast t))
    go true text t k =
        let p = ast t in
        let shaped = c.folded_is_clean.ensures.shapes p k.shaped in
        record {
          shaped = shaped;
          scoped = c.folded_is_clean.ensures.scopes (length (tokens text)) p k.scoped;
          typed = c.folded_is_clean.ensures.types p k.typed;
          small = c.numbers_are_small.ensures (folded_if true p) shaped (c.values_are_words.ensures.constants p (c.numbers_are_words.ensures text t k.lexical k.tree));
        }
    go false text t k =
        record { shaped = k.shaped; scoped = k.scoped; typed = k.typed; small = c.numbers_are_small.ensures (ast t) k.shaped (c.numbers_are_words.ensures text t k.lexical k.tree) }
