use Rattle.std.proofs.Common.{ℕ, ◌<◌, refl, ap, ◌∙◌, sym, subst, arith}
use Rattle.scatter_rows.proofs.Covering.{covers_none, covers_more, covers_as}
use Rattle.scatter_rows.proofs.team.Job.put_claimed.Goals as goal

pub loop-c-init : goal.loop-c-init
loop-c-init g c =
    let fresh_view = c.requires.new.1 in
    record {
      seat_board = c.requires.boards.0;
      mine_board = c.requires.boards.1;
      weight = ap (λ v. v.weight) fresh_view;
      unspent = (let share = ap (λ v. v.share) fresh_view in omega arith);
      covers = covers_none (g.S.Chunks.has c.args.self.now.chunks.now) _ _ (ap (λ v. v.claimed) fresh_view);
    }

pub loop-c-preserved : goal.loop-c-preserved
loop-c-preserved g c =
    let old = c.loop-c.invariant in
    let drawn = c.in-Some.ensures.some.1 in
    record {
      seat_board = c.put.ensures.board ∙ old.seat_board;
      mine_board = ap (λ s. s.board) drawn ∙ old.mine_board;
      weight = ap (λ s. s.view.weight) drawn ∙ old.weight;
      unspent = subst (λ (n : ℕ). 0 < n) (sym (ap (λ s. s.view.share) drawn)) old.unspent;
      covers = covers_as (g.S.Chunks.has c.args.self.now.chunks.now) _ _ _ _ (ap (λ s. s.view.claimed) drawn) refl (covers_more (g.S.Chunks.has c.args.self.now.chunks.now) c.loop-c.mine.view.claimed c.loop-c.seat.view.put _ c.in-Some.c old.covers c.put.ensures.kept c.in_ok-put.ensures.put);
    }
