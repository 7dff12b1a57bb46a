use Rattle.std.proofs.Common.{ap, ◌∙◌}
use Rattle.scatter_rows.proofs.Covering.{kept_more, put_more}
use Rattle.scatter_rows.proofs.at_places.Listed.put_chunk.Goals as goal

pub loop-i-preserved : goal.loop-i-preserved
loop-i-preserved g c =
    let old = c.loop-i.invariant in
    let longer = ap (λ s. s.view.put) c.put.ensures in
    record {
      board = ap (λ s. s.board) c.put.ensures ∙ old.board;
      kept = λ i p. kept_more _ _ _ longer i (old.kept i p);
      put = put_more _ _ _ _ longer old.put;
    }
