use Rattle.std.proofs.Common.{◌≡◌, ◌<◌, ◌-◌, ◌++◌, map, length}
use Rattle.std.specs.Prelude.{All}
use Rattle.par_passes.specs.Crews.{Callable, Gave}
use Rattle.par_passes.proofs.crew.work.Given as goal

abbrev pub invariant-loop-c : goal.invariant-loop-c
invariant-loop-c g l = record {
  board : l.mine.board ≡ l.initial.mine.board;
  weight : l.mine.view.weight ≡ l.initial.mine.view.weight;
  unspent : 0 < l.mine.view.share;
  callable : Callable l.claims.chunks (goal.F-pre g l.make);
  drawn : l.mine.view.claimed ≡ l.initial.mine.view.claimed ++ map (λ p. p.0) l.all.items;
  made : All (Gave l.claims.chunks (goal.F-post g l.make)) l.all.items;
}

abbrev pub decreases-loop-c : goal.decreases-loop-c
decreases-loop-c g l = l.claims.chunks - length l.mine.view.claimed
