use Rattle.std.proofs.Common.{◌≡◌, ◌-◌, suc, ap, ◌∙◌, arith}
use Rattle.scan_lookback.proofs.Before.{begins, takes_part, down_none, down_more, down_zero}
use Rattle.scan_lookback.proofs.board.ScanBoard.before.Goals as goal

pub loop-j-init : goal.loop-j-init
loop-j-init g c =
    let m = c.args.self.now.monoid in
    let t = begins (g.M.WordMonoid.ops m) (g.met.M.WordMonoid.lawful m) g.N.Chunks.sums c.monoid-monoid.ensures.named.items c.args.c c.unit-sum.result (c.unit-sum.ensures ∙ ap (λ k. (g.M.WordMonoid.ops k).unit) c.monoid-monoid.ensures.same) in
    record { item = t.0; joined = t.1; down = down_none c.args.c c.args.seat.now c.args.steps.now }

pub loop-j-preserved : goal.loop-j-preserved
loop-j-preserved g c =
    let m = c.args.self.now.monoid in
    let i = c.loop-j.invariant in
    let load = c.step.ensures.load in
    let known = c.in-Part.ensures.load in
    let next : suc (c.loop-j.j - 1) ≡ c.loop-j.j = omega (arith, c.loop-j-test.true) in
    let is = c.join-sum.ensures ∙ ap (λ k. (g.M.WordMonoid.ops k).join c.in-Part.part c.loop-j.sum) c.monoid-monoid.ensures.same in
    let t = takes_part (g.M.WordMonoid.ops m) (g.met.M.WordMonoid.lawful m) g.N.Chunks.sums c.monoid-monoid.ensures.named.items (c.loop-j.j - 1) c.loop-j.j c.args.c c.in-Part.part c.loop-j.sum c.join-sum.result next known.2.0 is i.item i.joined in
    record { item = t.0; joined = t.1; down = down_more _ _ _ next _ _ _ _ _ _ known.0 i.down known.1 c.step.ensures.counted known.2.1 }

pub returns-clause-loads : goal.returns-clause-loads
returns-clause-loads g c = down_zero _ _ (omega (arith, c.loop-j-test.false)) _ _ _ _ c.loop-j.invariant.down
