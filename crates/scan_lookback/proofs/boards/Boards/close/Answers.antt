use Rattle.std.proofs.Common.{◌≡◌, ℕ, min, List, subst, arith}
use Rattle.chunk_seats.specs.Tallies.{times, OnceBelow}
use Rattle.scan_lookback.proofs.boards.Boards.close.Goals as goal

pub returns-clause-once : goal.returns-clause-once
returns-clause-once g c =
    let made = c.requires.made in
    let closed = c.close-2.ensures in
    let all : min c.close-2.result.counter c.args.self.claims.chunks ≡ c.args.self.claims.chunks = omega (arith, closed.spent made.spent) in
    subst (λ (l : List ℕ). OnceBelow c.args.self.claims.chunks (λ n. times n l)) made.drawn
    (subst (λ (k : ℕ). OnceBelow k (λ n. times n c.args.made.team.mine.view.claimed)) all (closed.claimed made.weight))
