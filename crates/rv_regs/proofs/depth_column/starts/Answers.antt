use Rattle.std.proofs.Common.{◌≡◌, suc, ◌+◌, ◌++◌, ◌∷◌, [], pos, length, map, get_or, refl, ◌∙◌, SFits, w64, rules, ℕ}
use Rattle.std.specs.List.{range_with_len}
use Rattle.std.proofs.lemmas.Int.{to_z-of_z}
use Rattle.list_cuts.specs.Cuts.{start_of}
use Rattle.rv_regs.specs.Depths.{sum_before}
use Rattle.rv_regs.proofs.Summed.{is_item, item_fits, map_more, stretch_item, stretch_step}
use Rattle.rv_regs.proofs.depth_column.starts.Goals as goal

pub join-sum-requires : goal.join-sum-requires
join-sum-requires c =
    let kinds = c.args.columns.kinds.now in
    let parents = c.args.columns.parents.now in
    let places = c.args.columns.places.now in
    let sums = c.args.sums.now in
    let item = stretch_item kinds parents places c.args.ends.now sums (length sums) c.requires.sums c.loop-c.c in
    let there = item (get_or sums c.loop-c.c (pos 0)) (pos 0) c.loop-c-test.true refl in (
      is_item kinds parents places (start_of c.args.ends.now c.loop-c.c) _ c.loop-c.invariant.sum,
      item _ (pos 0) c.loop-c-test.true (to_z-of_z w64 (get_or sums c.loop-c.c (pos 0)) (item_fits _ there)),
    )

pub loop-c-preserved : goal.loop-c-preserved
loop-c-preserved c =
    let kinds = c.args.columns.kinds.now in
    let parents = c.args.columns.parents.now in
    let places = c.args.columns.places.now in
    let sums = c.args.sums.now in
    let ends = c.args.ends.now in
    let there = stretch_item kinds parents places ends sums (length sums) c.requires.sums c.loop-c.c (get_or sums c.loop-c.c (pos 0)) (pos 0) c.loop-c-test.true refl in
    let row = to_z-of_z w64 (get_or sums c.loop-c.c (pos 0)) (item_fits _ there) in
    let fits : SFits w64 c.join-sum.result = search rules in
    let joined = to_z-of_z w64 c.join-sum.result fits in
    let next = stretch_step kinds parents places ends sums (length sums) c.requires.sums c.loop-c.c _ _ _ (pos 0) c.loop-c-test.true c.loop-c.invariant.sum row (joined ∙ c.join-sum.ensures) in
    record {
      sum = next;
      starts =
          c.in_ok-push-2.ensures.items
          ∙ ((λ i. c.loop-c.invariant.starts i ++ next i ∷ [])
          ∙ map_more (λ (n : ℕ). sum_before kinds parents places (start_of ends n)) c.loop-c.c);
    }
