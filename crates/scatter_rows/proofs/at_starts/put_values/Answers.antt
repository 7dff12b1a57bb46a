use Rattle.std.proofs.Common.{◌<◌, ap, ◌∙◌, arith, rules}
use Rattle.scatter_rows.proofs.Covering.{kept_more, put_more}
use Rattle.scatter_rows.proofs.Standing.{place_is, value_at}
use Rattle.scatter_rows.proofs.at_starts.put_values.Goals as goal

pub put-requires-clause-pair : goal.put-requires-clause-pair
put-requires-clause-pair g c =
    let i = c.loop-i.i in
    let at = value_at g.N.Pairs.values c.args.values.now c.args.from c.args.to i c.requires.stand (omega (arith, c.loop-i.auto.i)) (omega (arith, c.loop-i-test.true)) in
    let less : i < c.args.cells.now.board.words = (let inside = c.requires.stand.inside in omega (arith, c.requires.places.1, c.loop-i-test.true)) in
    let place = place_is g.N.Pairs.places c.args.cells.now.board.words c.requires.places.0 i less in
    (place.0, place.1, at.1 ∙ search rules)

pub loop-i-preserved : goal.loop-i-preserved
loop-i-preserved g c =
    let old = c.loop-i.invariant in
    let longer = ap (λ s. s.view.put) c.put.ensures in
    record {
      board = ap (λ s. s.board) c.put.ensures ∙ old.board;
      kept = λ i p. kept_more _ _ _ longer i (old.kept i p);
      put = put_more _ _ _ _ longer old.put;
    }
