use Rattle.std.proofs.Common.{◌≡◌, List, ℕ, [], ◌∷◌, ◌++◌, ◌∙◌, ap}
use Rattle.std.proofs.lemmas.Result.{on_ok_weaker}
use Rattle.pass_tables.specs.Tables.{hexadecimal_text}
use Rattle.pass_tables.proofs.code.put_word.Goals as goal

pub returns : goal.returns
returns c =
    let column = c.args.column.now in
    let cell : c.deref.result.now ≡ hexadecimal_text c.args.word = c.deref.ensures.value ∙ c.in_ok-push_word.ensures ∙ ap (λ (xs : List ℕ). xs ++ hexadecimal_text c.args.word) c.clear.ensures.items in
    on_ok_weaker c.push.result (λ p. p ∙ (λ i. record column { cells = column.cells ++ cell i ∷ [] })) c.push.ensures.ok
