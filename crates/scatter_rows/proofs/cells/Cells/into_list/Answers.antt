use Rattle.std.proofs.Common.{◌≡◌, length, sym, subst, ◌∙◌, arith, rules}
use Rattle.std.specs.Mem.Slots.{slots_items, slots_len, slots_counts}
use Rattle.std.proofs.lemmas.Result.{IfOk-weaker}
use Rattle.scatter_rows.specs.declared.views.PutView.{PutView}
use Rattle.scatter_rows.specs.Worked.{IsReadOut}
use Rattle.scatter_rows.proofs.Putting.{bounded, lists}
use Rattle.scatter_rows.proofs.cells.Cells.into_list.Goals as goal

pub list_values-list-requires-clause-narrow : goal.list_values-list-requires-clause-narrow
list_values-list-requires-clause-narrow g c = λ k.
    let below = bounded g.N.Pairs.places g.N.Pairs.values g.N.Pairs.limit _ _ _ _ _ c.close_with-closed.ensures.values.2 k in
    omega (arith, below, c.requires.narrow)

pub returns : goal.returns
returns g c =
    let words = c.close_with-closed.result.words in
    let wide : c.args.len ≡ slots_len words = search rules in
    let counts : c.args.len ≡ length (slots_items words) = wide ∙ (slots_counts words).0 in
    let seen : c.args.seat.view ≡ c.seat.inside.token.me.0 = search rules in
    IfOk-weaker c.list_values-list.result _ _
    (λ v is. let read = lists g.N.Pairs.places g.N.Pairs.values g.N.Pairs.limit _ _ _ _ _ c.args.len v.items c.close_with-closed.ensures.values.2 counts is c.requires.distinct in
    (read.0, subst (λ (w : PutView). IsReadOut g.N.Pairs.places g.N.Pairs.values w.put v.items) (sym seen) read.1))
    c.list_values-list.ensures
