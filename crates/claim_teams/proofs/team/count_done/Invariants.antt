use Rattle.std.proofs.Common.{◌≡◌}
use Rattle.chunk_seats.specs.Tallies.{times, OnceBelow}
use Rattle.claim_teams.proofs.Counting.{IsCounted}
use Rattle.claim_teams.proofs.team.count_done.Given as goal

abbrev pub invariant-loop-c : goal.invariant-loop-c
invariant-loop-c l = record {
  board : l.mine.board ≡ l.fn.mine.board;
  weight : l.mine.view.weight ≡ l.fn.mine.view.weight;
  kept : l.mine.view.claimed ≡ l.fn.mine.view.claimed;
  once : OnceBelow l.fn.claims.chunks (λ n. times n l.fn.mine.view.claimed);
  counted : IsCounted l.fn.first l.c l.mine.view.done;
}
