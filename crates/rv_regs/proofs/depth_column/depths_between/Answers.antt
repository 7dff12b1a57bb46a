use Rattle.std.proofs.Common.{◌≡◌, ℤ, ◌++◌, ◌∷◌, [], ◌∙◌, ap, subst, sym, SFits, w64, arith, rules}
use Rattle.std.proofs.lemmas.Int.{to_z-of_z}
use Rattle.word_monoid.specs.Instances.{signed}
use Rattle.word_monoid.specs.Monoid.{IsItem}
use Rattle.rv_regs.specs.Depths.{depth_from, depth_in}
use Rattle.rv_regs.proofs.Summed.{is_item, map_next, sum_step}
use Rattle.rv_regs.proofs.depth_column.depths_between.Goals as goal

pub join-sum-requires : goal.join-sum-requires
join-sum-requires c =
    let fits : SFits w64 c.step_behind.result = search rules in (
      is_item c.args.columns.kinds.now c.args.columns.parents.now c.args.columns.places.now c.loop-k.k _ c.loop-k.invariant.sum,
      subst (IsItem signed) (sym (to_z-of_z w64 c.step_behind.result fits)) c.step_behind.ensures.item,
    )

pub loop-k-preserved : goal.loop-k-preserved
loop-k-preserved c =
    let kinds = c.args.columns.kinds.now in
    let parents = c.args.columns.parents.now in
    let places = c.args.columns.places.now in
    let near = c.loop-k-test.true in
    let within = c.requires.within in
    let order = c.loop-k.invariant.order in
    let fits : SFits w64 c.step_behind.result = search rules in
    let sum_fits : SFits w64 c.join-sum.result = search rules in
    let here : c.depth_behind.result ≡ depth_in kinds parents places c.loop-k.k = c.depth_behind.ensures ∙ ap (λ (s : ℤ). depth_from kinds parents places s c.loop-k.k) c.loop-k.invariant.sum in
    record {
      order = omega arith;
      sum =
          sum_step kinds parents places c.loop-k.k _ _ _ (omega arith) c.loop-k.invariant.sum (to_z-of_z w64 c.step_behind.result fits ∙ c.step_behind.ensures.value)
          (to_z-of_z w64 c.join-sum.result sum_fits ∙ c.join-sum.ensures);
      depths =
          c.in_ok-push.ensures.items
          ∙ ((λ i. c.loop-k.invariant.depths i ++ here i ∷ [])
          ∙ sym (map_next (depth_in kinds parents places) c.args.from c.loop-k.k order));
    }
