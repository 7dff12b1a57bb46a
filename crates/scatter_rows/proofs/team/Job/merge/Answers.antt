use Rattle.std.proofs.Common.{ℕ, ap, ◌∙◌}
use Rattle.chunk_seats.specs.Claims.{shares}
use Rattle.scatter_rows.proofs.Covering.{covers_both, covers_as}
use Rattle.scatter_rows.proofs.team.Job.merge.Goals as goal

pub returns-clause-done : goal.returns-clause-done
returns-clause-done g c =
    let one = c.requires.one in
    let two = c.requires.two in
    record {
      cells_is = ap (λ s. s.board) c.join.ensures ∙ one.cells_is;
      claims_is = ap (λ s. s.board) c.join-2.ensures ∙ one.claims_is;
      words = one.words;
      spent = ap (λ s. s.view.share) c.join-2.ensures ∙ ap (λ (n : ℕ). shares n c.args.two.mine.view.share) one.spent;
      covers = covers_as (g.S.Chunks.has c.args.self.now.chunks.now) _ _ _ _ (ap (λ s. s.view.claimed) c.join-2.ensures) (ap (λ s. s.view.put) c.join.ensures) (covers_both (g.S.Chunks.has c.args.self.now.chunks.now) _ _ _ _ one.covers two.covers);
    }
