use Rattle.std.proofs.Common.{◌≡◌, ◌∙◌, ◌<◌, [], ◌∷◌, ◌++◌, sym, ap, subst, arith}
use Rattle.std.specs.Prelude.{IfSome}
use Rattle.chunk_seats.specs.Claims.{claiming}
use Rattle.chunk_seats.specs.Held.{Held, held}
use Rattle.chunk_seats.specs.Tallies.{times}
use Rattle.claim_teams.specs.Teams.{AreMade}
use Rattle.claim_teams.proofs.Working.{still_there}
use Rattle.claim_teams.proofs.team.work.Given as given
use Rattle.claim_teams.proofs.team.work.Goals as goal

pub loop-c-preserved : goal.loop-c-preserved
loop-c-preserved g c =
    let inv = c.loop-c.invariant in
    let is : c.claim.new.seat ≡ held c.loop-c.mine.board (claiming c.loop-c.mine.view c.in-Some.c) = c.in-Some.ensures.some.1 in
    let claimed : c.claim.new.seat.view.claimed ≡ c.loop-c.mine.view.claimed ++ c.in-Some.c ∷ [] = ap (λ (s : Held). s.view.claimed) is in
    let share : c.claim.new.seat.view.share ≡ c.loop-c.mine.view.share = ap (λ (s : Held). s.view.share) is in
    record {
      board = ap (λ (s : Held). s.board) is ∙ inv.board;
      weight = ap (λ (s : Held). s.view.weight) is ∙ inv.weight;
      unspent = (let some = inv.unspent in omega arith);
      undone = ap (λ (s : Held). s.view.done) is ∙ inv.undone;
      callable = inv.callable;
      begins = subst (λ l. IfSome c.args.begun (λ n. 0 < times n l)) (sym claimed) (still_there c.args.begun c.loop-c.mine.view.claimed (c.in-Some.c ∷ []) inv.begins);
      made = subst (λ l. AreMade c.args.job.now.claims.now.chunks (given.F-post g c.args.job.now.make.now) l c.one_more-all.result) (sym claimed) (c.one_more-all.ensures _ _ c.in-Some.ensures.some.0 inv.made);
    }
