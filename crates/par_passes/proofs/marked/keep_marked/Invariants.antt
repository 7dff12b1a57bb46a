use Rattle.std.proofs.Common.{◌≡◌, take}
use Rattle.par_passes.specs.Passes.{marked}
use Rattle.par_passes.proofs.marked.keep_marked.Given as goal

abbrev pub invariant-loop-k : goal.invariant-loop-k
invariant-loop-k g l = l.out.items ≡ marked (take l.k l.items) (take l.k l.marks)
