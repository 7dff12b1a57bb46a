use Rattle.std.proofs.Common.{◌≡◌, map}
use Rattle.std.specs.List.{range_with_len}
use Rattle.par_passes.specs.Least.{least_key}
use Rattle.par_passes.proofs.fewest.least_between.Given as goal

abbrev pub invariant-loop-i : goal.invariant-loop-i
invariant-loop-i g l = l.least ≡ least_key (map g.K.Lifted.code_of (range_with_len l.from l.i))
