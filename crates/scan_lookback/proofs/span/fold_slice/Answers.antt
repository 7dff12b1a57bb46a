use Rattle.std.proofs.Common.{Some, sym, ap, ◌∙◌, subst, arith}
use Rattle.std.proofs.lemmas.Option.{slice_get-get_or}
use Rattle.word_monoid.specs.Monoid.{IsItem}
use Rattle.scan_lookback.specs.Laws.Cutting.{lifted_more}
use Rattle.scan_lookback.proofs.span.fold_slice.Goals as goal

pub loop-x-preserved : goal.loop-x-preserved
loop-x-preserved g c =
    let m = c.args.monoid.now in
    let at = slice_get-get_or c.args.part.now c.loop-x.x-index c.x-item.result (omega arith) ∙ ap Some (sym c.x-item.is) in
    record {
      joined = λ lifted lifts. lifted_more _ c.args.part.now lifted lifts (g.M.WordMonoid.ops m) (g.M.WordMonoid.ops m).unit c.loop-x.sum c.loop-x.x-index c.x-item.result c.lift.result c.join-sum.result at c.lift.ensures c.join-sum.ensures (c.loop-x.invariant.joined lifted lifts);
      item = subst (IsItem (g.M.WordMonoid.ops m)) (sym c.join-sum.ensures) ((g.met.M.WordMonoid.lawful m).join_is_item c.loop-x.sum c.lift.result c.loop-x.invariant.item (c.requires.items c.loop-x.x-index c.x-item.result c.lift.result at c.lift.ensures));
    }
