use Rattle.std.proofs.Common.{◌≡◌, ◌++◌, List, take, map, fold}
use Rattle.std.specs.List.{range_with_len}
use Rattle.word_monoid.specs.Monoid.{IsItem}
use Rattle.scan_lookback.specs.Cuts.{Lifts}
use Rattle.scan_lookback.proofs.span.run_onto.Given as goal

abbrev pub invariant-loop-x : goal.invariant-loop-x
invariant-loop-x g l = record {
  joined : (lifted : List _) → Lifts (goal.F-post g l.lift) l.part lifted → l.sum ≡ fold (g.M.WordMonoid.ops l.monoid).join l.fn.start (take l.x-index lifted);
  listed : (lifted : List _) → Lifts (goal.F-post g l.lift) l.part lifted → l.out.items ≡ l.fn.out.items ++ map (λ k. fold (g.M.WordMonoid.ops l.monoid).join l.fn.start (take k lifted)) (range_with_len 0 l.x-index);
  item : IsItem (g.M.WordMonoid.ops l.monoid) l.sum;
}
