use Rattle.std.proofs.Common.{◌≡◌, List, ℕ, [], ◌∷◌, ◌++◌, ◌∙◌, ap}
use Rattle.std.proofs.lemmas.Result.{on_ok_weaker}
use Rattle.llp_tables.specs.EntryTable.{entry_of}
use Rattle.pass_tables.specs.PairTexts.{part_text}
use Rattle.pass_tables.proofs.pairs.put_part.Goals as goal

pub returns : goal.returns
returns c =
    let column = c.args.column.now in
    let part = part_text c.args.part c.args.reading.now.grammar.now (entry_of c.args.reading.now.tables.now) (c.args.pair.before, c.args.pair.next) in
    let cell : c.deref.result.now ≡ part = c.deref.ensures.value ∙ c.in_ok-push_part.ensures ∙ ap (λ (xs : List ℕ). xs ++ part) c.clear.ensures.items in
    on_ok_weaker c.push.result (λ p. p ∙ (λ i. record column { cells = column.cells ++ cell i ∷ [] })) c.push.ensures.ok
