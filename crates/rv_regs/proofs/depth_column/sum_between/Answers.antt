use Rattle.std.proofs.Common.{◌∙◌, subst, sym, SFits, w64, arith, rules}
use Rattle.std.proofs.lemmas.Int.{to_z-of_z}
use Rattle.word_monoid.specs.Instances.{signed}
use Rattle.word_monoid.specs.Monoid.{IsItem}
use Rattle.rv_regs.proofs.Summed.{adds_none, adds_next}
use Rattle.rv_regs.proofs.depth_column.sum_between.Goals as goal

pub loop-k-init : goal.loop-k-init
loop-k-init c =
    let fits : SFits w64 c.unit-sum.result = search rules in
    adds_none c.args.columns.kinds.now c.args.columns.parents.now c.args.columns.places.now c.args.from _ (to_z-of_z w64 c.unit-sum.result fits ∙ c.unit-sum.ensures)

pub loop-k-preserved : goal.loop-k-preserved
loop-k-preserved c =
    let near = c.loop-k-test.true in
    let within = c.requires.within in
    let fits : SFits w64 c.step_behind.result = search rules in
    let sum_fits : SFits w64 c.join-sum.result = search rules in
    let back = to_z-of_z w64 c.step_behind.result fits in
    adds_next c.args.columns.kinds.now c.args.columns.parents.now c.args.columns.places.now c.args.from c.loop-k.k _ _ _ (omega arith) c.loop-k.invariant
    (subst (IsItem signed) (sym back) c.step_behind.ensures.item) (back ∙ c.step_behind.ensures.value) (to_z-of_z w64 c.join-sum.result sum_fits ∙ c.join-sum.ensures)
