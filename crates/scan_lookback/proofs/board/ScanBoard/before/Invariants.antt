use Rattle.std.proofs.Common.{◌≡◌}
use Rattle.word_monoid.specs.Monoid.{IsItem}
use Rattle.word_monoid.specs.Folds.{prefix_of}
use Rattle.scan_lookback.proofs.Before.{Down}
use Rattle.scan_lookback.proofs.board.ScanBoard.before.Given as goal

abbrev pub invariant-loop-j : goal.invariant-loop-j
invariant-loop-j g l = record {
  item : IsItem (g.M.WordMonoid.ops l.self.monoid) l.sum;
  joined : (g.M.WordMonoid.ops l.self.monoid).join (prefix_of (g.M.WordMonoid.ops l.self.monoid) g.N.Chunks.sums l.j) l.sum
      ≡ prefix_of (g.M.WordMonoid.ops l.self.monoid) g.N.Chunks.sums l.c;
  down : Down l.c l.j l.initial.seat l.seat l.initial.steps l.steps;
}

abbrev pub decreases-loop-j : goal.decreases-loop-j
decreases-loop-j g l = l.j
