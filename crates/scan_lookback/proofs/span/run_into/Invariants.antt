use Rattle.std.proofs.Common.{◌≡◌, List, take, map, fold, length}
use Rattle.std.specs.List.{range_with_len}
use Rattle.word_monoid.specs.Monoid.{IsItem}
use Rattle.scan_lookback.specs.Cuts.{Lifts}
use Rattle.scan_lookback.proofs.span.run_into.Given as goal

abbrev pub invariant-loop-k : goal.invariant-loop-k
invariant-loop-k g l = record {
  joined : (lifted : List _) → Lifts (goal.F-post g l.lift) l.part lifted → l.sum ≡ fold (g.M.WordMonoid.ops l.monoid).join l.fn.start (take l.k lifted);
  listed : (lifted : List _) → Lifts (goal.F-post g l.lift) l.part lifted → take l.k l.out ≡ map (λ k. fold (g.M.WordMonoid.ops l.monoid).join l.fn.start (take k lifted)) (range_with_len 0 l.k);
  item : IsItem (g.M.WordMonoid.ops l.monoid) l.sum;
  wide : length l.out ≡ length l.part;
}
