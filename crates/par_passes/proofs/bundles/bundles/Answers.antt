use Rattle.std.proofs.Common.{arith}
use Rattle.par_passes.proofs.Bundling.{gave_each}
use Rattle.par_passes.specs.Laws.Giving.{each_number}
use Rattle.par_passes.proofs.bundles.bundles.Given as given
use Rattle.par_passes.proofs.bundles.bundles.Goals as goal

pub run-requires-clause-callable : goal.run-requires-clause-callable
run-requires-clause-callable g c = λ κs within k less. each_number (given.F-pre g c.args.make.now) c.args.count c.requires.callable k (omega (arith, less, c.in_ok-claims.ensures.0))

pub returns : goal.returns
returns g c = gave_each c.args.count c.in_ok-claims.claims.chunks (given.F-post g c.args.make.now) c.in_ok-mine.field-0.all.items c.in_order.result c.in_ok-mine.ensures.made c.in_order.ensures.len c.in_order.ensures.each
