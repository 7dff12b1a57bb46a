use Rattle.std.proofs.Common.{◌≡◌, List}
use Rattle.word_monoid.specs.Monoid.{IsItem}
use Rattle.word_monoid.specs.Folds.{prefix_of}
use Rattle.scan_lookback.specs.Cuts.{Lifts}
use Rattle.scan_lookback.proofs.span.fold_slice.Given as goal

abbrev pub invariant-loop-x : goal.invariant-loop-x
invariant-loop-x g l = record {
  joined : (lifted : List _) → Lifts (goal.F-post g l.lift) l.part lifted → l.sum ≡ prefix_of (g.M.WordMonoid.ops l.monoid) lifted l.x-index;
  item : IsItem (g.M.WordMonoid.ops l.monoid) l.sum;
}
