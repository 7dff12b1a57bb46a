use Rattle.std.proofs.Common.{arith}
use Rattle.par_passes.specs.Laws.Giving.{each_number}
use Rattle.par_passes.proofs.crew.by_chunks.Given as given
use Rattle.par_passes.proofs.crew.by_chunks.Goals as goal

pub run-requires-clause-callable : goal.run-requires-clause-callable
run-requires-clause-callable g c = λ κs within k less. each_number (given.F-pre g c.args.make.now) c.args.count c.requires.callable k (omega (arith, less, c.in_ok-claims.ensures.0))
