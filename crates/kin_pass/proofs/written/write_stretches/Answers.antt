use Rattle.std.proofs.Common.{arith, subst, sym}
use Rattle.par_passes.specs.Laws.Calling.{if_ok}
use Rattle.kin_pass.specs.Lists.{AreWide, AreWritten, rows_in}
use Rattle.kin_pass.proofs.Ranges.{some_less}
use Rattle.kin_pass.proofs.written.write_stretches.Goals as goal

pub work_in_place-requires-clause-callable : goal.work_in_place-requires-clause-callable
work_in_place-requires-clause-callable g c κs within = λ k x at p is.
    let less = some_less c.args.parts.items k x at in
    let many = c.requires.count in
    (c.requires.stretches, omega arith, subst (AreWide (rows_in c.args.stretches.now.ends.now k)) (sym is) (c.requires.wide k x at))

pub returns-clause-each : goal.returns-clause-each
returns-clause-each g c = if_ok c.work_in_place.result c.work_in_place.ensures.each (λ v all k x y at there.
    let s = c.args.stretches.now in
    let changed = all k x y at there in
    subst (λ a. AreWritten s k a y) changed.argument_is (subst (AreWritten s k changed.argument.now) changed.left changed.call))
