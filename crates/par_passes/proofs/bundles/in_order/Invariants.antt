use Rattle.std.proofs.Common.{◌≡◌, ◌++◌, map, Some}
use Rattle.scan_lookback.specs.Placed.{Placed}
use Rattle.par_passes.proofs.bundles.in_order.Given as goal

abbrev pub invariant-loop-slot : goal.invariant-loop-slot
invariant-loop-slot g l = Placed l.fn.pairs.items l.fn.count (l.yielded ++ l.slot-iterator.rest.items) × (l.yielded ≡ map Some l.bundles.items)
