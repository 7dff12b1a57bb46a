use Rattle.std.proofs.Common.{◌≡◌, List, ℕ, [], ◌∷◌, ◌++◌, ◌∙◌, ap}
use Rattle.std.proofs.lemmas.Result.{on_ok_weaker}
use Rattle.pass_tables.specs.Tables.{kind_text}
use Rattle.pass_tables.proofs.rows.put_kind.Goals as goal

pub returns : goal.returns
returns c =
    let column = c.args.column.now in
    let cell : c.deref.result.now ≡ kind_text c.args.kind = c.deref.ensures.value ∙ c.in_ok-push_kind.ensures ∙ ap (λ (xs : List ℕ). xs ++ kind_text c.args.kind) c.clear.ensures.items in
    on_ok_weaker c.push.result (λ p. p ∙ (λ i. record column { cells = column.cells ++ cell i ∷ [] })) c.push.ensures.ok
