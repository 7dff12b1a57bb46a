use Rattle.std.proofs.Common.{◌≡◌, ◌*◌}
use Rattle.word_monoid.specs.Monoid.{IsItem}
use Rattle.word_monoid.specs.Folds.{prefix_of}
use Rattle.scan_lookback.proofs.OneWorker.{before_chunk}
use Rattle.scan_lookback.proofs.scanned.Scanned.scan_alone.Given as goal

abbrev pub invariant-loop-c : goal.invariant-loop-c
invariant-loop-c g l = record {
  listed : l.out.items ≡ before_chunk (g.M.WordMonoid.ops l.self.monoid.now) l.self.size g.N.Chunks.items l.c;
  joined : l.sum ≡ prefix_of (g.M.WordMonoid.ops l.self.monoid.now) g.N.Chunks.items (l.c * l.self.size);
  item : IsItem (g.M.WordMonoid.ops l.self.monoid.now) l.sum;
}
