use Rattle.std.proofs.Common.{◌≡◌, ◌<◌, ◌-◌, [], length}
use Rattle.std.specs.Prelude.{IfSome}
use Rattle.par_passes.specs.Crews.{Callable}
use Rattle.chunk_seats.specs.Tallies.{times}
use Rattle.claim_teams.specs.Teams.{AreMade}
use Rattle.claim_teams.proofs.team.work.Given as goal

abbrev pub invariant-loop-c : goal.invariant-loop-c
invariant-loop-c g l = record {
  board : l.mine.board ≡ l.job.claims.now.board;
  weight : l.mine.view.weight ≡ 1;
  unspent : 0 < l.mine.view.share;
  undone : l.mine.view.done ≡ [];
  callable : Callable l.job.claims.now.chunks (goal.F-pre g l.job.make.now);
  begins : IfSome l.fn.begun (λ c. 0 < times c l.mine.view.claimed);
  made : AreMade l.job.claims.now.chunks (goal.F-post g l.job.make.now) l.mine.view.claimed l.all;
}

abbrev pub decreases-loop-c : goal.decreases-loop-c
decreases-loop-c g l = l.job.claims.now.chunks - length l.mine.view.claimed
