use Rattle.std.proofs.Common.{◌≡◌, ℕ, ◌∙◌, arith}
use Rattle.par_passes.specs.Laws.Giving.{number_from}
use Rattle.par_passes.proofs.Lowest.{least_more}
use Rattle.par_passes.proofs.fewest.least_between.Given as given
use Rattle.par_passes.proofs.fewest.least_between.Goals as goal

pub f-requires : goal.f-requires
f-requires g c = number_from (given.F-pre g c.args.f.now) c.args.from c.args.count c.loop-i.i (omega (arith, c.loop-i-test.true)) c.requires.callable

pub loop-i-preserved : goal.loop-i-preserved
loop-i-preserved g c =
    let told = number_from (λ k. (r : ℕ) → given.F-post g c.args.f.now k r → r ≡ g.K.Lifted.code_of k) c.args.from c.args.count c.loop-i.i (omega (arith, c.loop-i-test.true)) c.requires.lifts c.f.result c.f.ensures in
    c.min-least.ensures ∙ least_more g.K.Lifted.code_of c.args.from c.loop-i.i c.loop-i.least c.f.result c.loop-i.invariant told
