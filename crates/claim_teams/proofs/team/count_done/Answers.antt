use Rattle.std.proofs.Common.{◌≡◌, ◌∙◌, ◌+◌, ap, sym, subst}
use Rattle.chunk_seats.specs.Claims.{finishing}
use Rattle.chunk_seats.specs.Held.{Held, held}
use Rattle.claim_teams.proofs.Counting.{IsCounted, passed_first, counted_next}
use Rattle.claim_teams.proofs.team.count_done.Goals as goal
use Rattle.claim_teams.proofs.team.count_done.Goals.{then-c-first, else-c-first}

pub loop-c-preserved : goal.loop-c-preserved
loop-c-preserved c =
    let inv = c.loop-c.invariant in
    elim c.if-c-first.branch [
      | then-c-first w ↦
          let is : c.if-c-first.mine ≡ held c.loop-c.mine.board (finishing c.loop-c.mine.view c.loop-c.c) = w.mine-is ∙ w.done-then-c-first.ensures.counted in
          record {
            board = ap (λ (s : Held). s.board) is ∙ inv.board;
            weight = ap (λ (s : Held). s.view.weight) is ∙ inv.weight;
            kept = ap (λ (s : Held). s.view.claimed) is ∙ inv.kept;
            once = inv.once;
            counted = counted_next c.args.first c.loop-c.c c.loop-c.mine.view.done _ w.if-c-first.true inv.counted (ap (λ (s : Held). s.view.done) is);
          }
      | else-c-first w ↦
          record {
            board = ap (λ (s : Held). s.board) w.mine-is ∙ inv.board;
            weight = ap (λ (s : Held). s.view.weight) w.mine-is ∙ inv.weight;
            kept = ap (λ (s : Held). s.view.claimed) w.mine-is ∙ inv.kept;
            once = inv.once;
            counted = subst (IsCounted c.args.first (c.loop-c.c + 1)) (sym (ap (λ (s : Held). s.view.done) w.mine-is)) (passed_first c.args.first c.loop-c.c c.loop-c.mine.view.done w.if-c-first.false inv.counted);
          }
    ]
