use Rattle.std.proofs.Common.{◌≡◌, Bool, arith}
use Rattle.par_passes.specs.Laws.Giving.{number_from}
use Rattle.par_passes.proofs.Choosing.{choose_more}
use Rattle.par_passes.proofs.numbered.choose_between.Given as given
use Rattle.par_passes.proofs.numbered.choose_between.Goals as goal

pub f-requires : goal.f-requires
f-requires g c = number_from (given.F-pre g c.args.f.now) c.args.from c.args.count c.loop-i.i (omega (arith, c.loop-i-test.true)) c.requires.callable

pub loop-i-preserved : goal.loop-i-preserved
loop-i-preserved g c = λ h computes.
    let told = number_from (λ k. (r : Bool) → given.F-post g c.args.f.now k r → r ≡ h k) c.args.from c.args.count c.loop-i.i (omega (arith, c.loop-i-test.true)) computes c.f.result c.f.ensures in
    choose_more h c.args.from c.loop-i.i c.loop-i.out.items _ c.f.result (c.loop-i.invariant h computes) told c.in_ok-push_if.ensures
