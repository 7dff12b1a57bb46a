use Rattle.std.proofs.Common.{◌≡◌, length, ap, sym, ◌∙◌, arith, rules}
use Rattle.std.specs.List.{range_with_len}
use Rattle.std.proofs.lemmas.Result.{IfOk-weaker}
use Rattle.scatter_rows.proofs.Standing.{places_inside, places_distinct, values_read}
use Rattle.scatter_rows.proofs.at_starts.put_parts.Goals as goal

pub into_list-requires-clause-distinct : goal.into_list-requires-clause-distinct
into_list-requires-clause-distinct g c = places_distinct g.N.Pairs.places c.args.len c.requires.places

pub returns : goal.returns
returns g c = IfOk-weaker c.into_list.result _ _ (λ v read.
    values_read g.N.Pairs.places c.args.len c.requires.places g.N.Pairs.values _ v.items c.requires.len read.0 read.1
    (λ i near. let part = c.requires.covered i near in c.in_ok-cells.ensures.put part.0 i (omega (arith, part.1)) part.2))
    c.into_list.ensures

pub put_all-requires-clause-inside : goal.put_all-requires-clause-inside
put_all-requires-clause-inside g c = λ κs within i near.
    let wide : length c.as_slice.result.now ≡ c.args.len = search rules in
    omega (arith, places_inside g.N.Pairs.places c.args.len c.requires.places i near, wide)

pub put_all-requires-clause-fit : goal.put_all-requires-clause-fit
put_all-requires-clause-fit g c = λ κs within.
    let wide : length c.as_slice.result.now ≡ c.args.len = search rules in
    ((c.requires.places ∙ ap (range_with_len 0) (sym wide), c.requires.len ∙ sym wide), c.requires.limit, c.requires.callable, c.requires.stand)
