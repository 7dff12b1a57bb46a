use Rattle.std.proofs.Common.{ℕ, ◌<◌, refl, ap, ◌∙◌, sym, subst, rules}
use Rattle.chunk_seats.specs.Claims.{finishing}
use Rattle.scan_lookback.proofs.Working.{stands_last, even_more, even_as, answers_more, all_more, StartsAt, back_none, back_more, tidy_sealed, on_err, tidy_as}
use Rattle.scan_lookback.proofs.boards.Boards.work.Goals as goal

pub done-requires-clause-claimed : goal.done-requires-clause-claimed
done-requires-clause-claimed g c = stands_last c.in-Some.c c.loop-c.team.mine.view.claimed _ (ap (λ s. s.view.claimed) c.in-Some.ensures.some.1)

pub loop-c-init : goal.loop-c-init
loop-c-init g c = record {
  seat_board = refl;
  mine_board = refl;
  seat_share = refl;
  weight = refl;
  unspent = c.requires.unspent;
  even = c.requires.even;
  looked = back_none _;
  drawn = search rules;
  starts = search rules;
}

pub loop-c-preserved : goal.loop-c-preserved
loop-c-preserved g c =
    let drawn = c.in-Some.ensures.some in
    let i = c.loop-c.invariant in
    let sealed = c.publish-start.ensures.sealed in
    record {
      seat_board = ap (λ s. s.board) sealed.1 ∙ i.seat_board;
      mine_board = ap (λ s. s.board) c.done.ensures.counted ∙ (ap (λ s. s.board) drawn.1 ∙ i.mine_board);
      seat_share = ap (λ s. s.view.share) sealed.1 ∙ i.seat_share;
      weight = ap (λ s. s.view.weight) c.done.ensures.counted ∙ (ap (λ s. s.view.weight) drawn.1 ∙ i.weight);
      unspent = subst (λ (n : ℕ). 0 < n) (sym (ap (λ s. s.view.share) c.done.ensures.counted ∙ ap (λ s. s.view.share) drawn.1)) i.unspent;
      even = even_as _ _ _ _ (ap (λ s. s.view) c.done.ensures.counted ∙ ap (λ s. finishing s.view c.in-Some.c) drawn.1) (ap (λ s. s.view) sealed.1)
          (even_more c.loop-c.team.mine.view c.loop-c.team.seat.view c.in-Some.c _ i.even drawn.2);
      looked = back_more c.args.team.now.seat.view c.loop-c.team.seat.view _ c.in-Some.c sealed.0 i.looked (ap (λ s. s.view) sealed.1) sealed.2;
      drawn = answers_more c.loop-c.team.mine.view.claimed _ _ c.loop-c.all.items _ c.in-Some.c c.publish-start.result i.drawn (ap (λ s. s.view.claimed) c.done.ensures.counted ∙ ap (λ s. s.view.claimed) drawn.1) c.in_ok-push.ensures.items;
      starts = all_more (StartsAt (g.M.WordMonoid.ops c.args.self.now.status.monoid) g.N.Chunks.sums) c.loop-c.all.items _ (c.in-Some.c, c.publish-start.result) c.in_ok-push.ensures.items i.starts c.publish-start.ensures.start;
    }

pub returns-in_err-push-clause-tidy : goal.returns-in_err-push-clause-tidy
returns-in_err-push-clause-tidy g c =
    let drawn = c.in-Some.ensures.some in
    on_err c.from_residual.result (tidy_as _ _ _ _ (ap (λ s. s.view) drawn.1) (ap (λ s. s.view) c.publish-start.ensures.sealed.1)
    (tidy_sealed c.loop-c.team.mine.view c.loop-c.team.seat.view c.in-Some.c _ c.loop-c.invariant.even drawn.2))

pub returns-in_err-push-clause-looked : goal.returns-in_err-push-clause-looked
returns-in_err-push-clause-looked g c = let sealed = c.publish-start.ensures.sealed in back_more _ c.loop-c.team.seat.view _ c.in-Some.c sealed.0 c.loop-c.invariant.looked (ap (λ s. s.view) sealed.1) sealed.2
