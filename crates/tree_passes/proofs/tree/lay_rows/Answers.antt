use Rattle.std.proofs.Common.{length, map, ap, ◌∙◌, arith}
use Rattle.std.specs.List.{range_with_len}
use Rattle.row_laws.specs.Climbed.{parents_by, place_at}
use Rattle.tree_passes.proofs.LaidRows.{laid_are, parents_many, parents_up, places_many}
use Rattle.tree_passes.proofs.tree.lay_rows.Goals as goal

pub lay-requires-clause-parents : goal.lay-requires-clause-parents
lay-requires-clause-parents g c =
    let n = parents_many c.args.columns.lows.items c.in_ok-kin.kin.parents.items (c.in_ok-kin.ensures.parents_are ∙ ap parents_by c.as_slice.ensures.value) in
    let l = c.requires.lows in
    omega arith

pub lay-requires-clause-places : goal.lay-requires-clause-places
lay-requires-clause-places g c =
    let n = places_many c.args.columns.lows.items c.in_ok-kin.kin.places.items (c.in_ok-kin.ensures.places_are ∙ ap (λ ls. map (place_at (parents_by ls)) (range_with_len 0 (length ls))) c.as_slice.ensures.value) in
    let l = c.requires.lows in
    omega arith

pub lay-requires-clause-upward : goal.lay-requires-clause-upward
lay-requires-clause-upward g c = parents_up c.args.columns.lows.items c.in_ok-kin.kin.parents.items (c.in_ok-kin.ensures.parents_are ∙ ap parents_by c.as_slice.ensures.value)

pub returns : goal.returns
returns g c = λ ms known small.
    c.lay.ensures ms
    (laid_are ms c.args.columns.kinds.items c.args.columns.lows.items c.args.columns.tokens.items c.in_ok-kin.kin.parents.items c.in_ok-kin.kin.places.items known small
    (c.in_ok-kin.ensures.parents_are ∙ ap parents_by c.as_slice.ensures.value)
    (c.in_ok-kin.ensures.places_are ∙ ap (λ ls. map (place_at (parents_by ls)) (range_with_len 0 (length ls))) c.as_slice.ensures.value))
