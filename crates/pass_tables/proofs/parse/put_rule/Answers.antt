use Rattle.std.proofs.Common.{◌≡◌, List, ℕ, [], ◌∷◌, ◌++◌, ◌∙◌, ap}
use Rattle.std.proofs.lemmas.Result.{on_ok_weaker}
use Rattle.pass_tables.specs.Tables.{rule_text}
use Rattle.pass_tables.proofs.parse.put_rule.Goals as goal

pub returns : goal.returns
returns c =
    let column = c.args.column.now in
    let rule = rule_text c.args.grammar.now c.args.number in
    let cell : c.deref.result.now ≡ rule = c.deref.ensures.value ∙ c.in_ok-push_rule.ensures ∙ ap (λ (xs : List ℕ). xs ++ rule) c.clear.ensures.items in
    on_ok_weaker c.push.result (λ p. p ∙ (λ i. record column { cells = column.cells ++ cell i ∷ [] })) c.push.ensures.ok
