use Rattle.std.proofs.Common.{◌≡◌}
use Rattle.word_monoid.specs.Monoid.{IsItem}
use Rattle.word_monoid.specs.Folds.{prefix_of}
use Rattle.board_core.proofs.rules.join_through.Given as goal

abbrev pub invariant-loop-i : goal.invariant-loop-i
invariant-loop-i g l = record {
  joined : l.joined ≡ prefix_of (g.M.WordMonoid.ops l.monoid) l.sums l.i;
  accepted : IsItem (g.M.WordMonoid.ops l.monoid) l.joined;
}
