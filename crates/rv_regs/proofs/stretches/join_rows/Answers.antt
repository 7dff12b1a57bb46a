use Rattle.std.proofs.Common.{◌≡◌, ℕ, subst, arith}
use Rattle.rv_regs.specs.Blocks.{Reaches}
use Rattle.rv_regs.proofs.Blocked.{reaches_next}
use Rattle.rv_regs.proofs.stretches.join_rows.Goals as goal

pub loop-k-init : goal.loop-k-init
loop-k-init c = (c.requires.item, λ a p e. e)

pub loop-k-preserved : goal.loop-k-preserved
loop-k-preserved c =
    let near = c.loop-k-test.true in
    let within = c.requires.within in
    reaches_next c.args.kinds.now c.args.depths.now c.args.from c.loop-k.k c.args.before c.loop-k.all c.row_segment.result c.join-all.result (omega arith)
    c.loop-k.invariant.0 c.row_segment.ensures.item c.loop-k.invariant.1 c.row_segment.ensures.value c.join-all.ensures

pub returns-clause-reaches : goal.returns-clause-reaches
returns-clause-reaches c =
    let a = c.loop-k.auto.k-end in
    let b = c.loop-k-test.false in
    let end : c.loop-k.k ≡ c.args.to = omega arith in
    subst (λ (k : ℕ). Reaches c.args.kinds.now c.args.depths.now c.args.from k c.args.before c.loop-k.all) end c.loop-k.invariant.1
