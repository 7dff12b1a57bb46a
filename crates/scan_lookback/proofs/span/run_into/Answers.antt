use Rattle.std.proofs.Common.{◌≡◌, length, take, Some, sym, ap, ◌∙◌, subst, arith}
use Rattle.std.proofs.lemmas.List.{length-set, take_all, take_more_set}
use Rattle.std.proofs.lemmas.Option.{slice_get-get_or}
use Rattle.word_monoid.specs.Monoid.{IsItem}
use Rattle.scan_lookback.specs.Laws.Cutting.{lifted_more, listed_more, listed_all}
use Rattle.scan_lookback.proofs.span.run_into.Goals as goal

pub loop-k-preserved : goal.loop-k-preserved
loop-k-preserved g c =
    let m = c.args.monoid.now in
    let i = c.loop-k.invariant in
    let at = slice_get-get_or c.args.part.now c.loop-k.k c.index-part-k.result (omega (arith, c.loop-k-test.true, c.requires.wide)) ∙ ap Some (sym c.index-part-k.is) in
    record {
      joined = λ lifted lifts. lifted_more _ c.args.part.now lifted lifts (g.M.WordMonoid.ops m) c.args.start c.loop-k.sum c.loop-k.k c.index-part-k.result c.lift.result c.join-sum.result at c.lift.ensures c.join-sum.ensures (i.joined lifted lifts);
      listed = λ lifted lifts. listed_more (g.M.WordMonoid.ops m) c.args.start lifted c.loop-k.k _ _ c.loop-k.sum (i.listed lifted lifts) (i.joined lifted lifts) (take_more_set c.loop-k.out c.loop-k.k c.loop-k.sum (omega (arith, c.loop-k-test.true, c.loop-k.auto.out)));
      item = subst (IsItem (g.M.WordMonoid.ops m)) (sym c.join-sum.ensures) ((g.met.M.WordMonoid.lawful m).join_is_item c.loop-k.sum c.lift.result i.item (c.requires.items c.loop-k.k c.index-part-k.result c.lift.result at c.lift.ensures));
      wide = length-set c.loop-k.out c.loop-k.k c.loop-k.sum ∙ i.wide;
    }

pub returns : goal.returns
returns g c =
    let m = c.args.monoid.now in
    let i = c.loop-k.invariant in λ lifted lifts.
    let end : c.loop-k.k ≡ length c.loop-k.out = omega (arith, c.loop-k-test.false, c.loop-k.auto.out, c.loop-k.auto.k-end) in
    let whole = ap (λ n. take n c.loop-k.out) end ∙ take_all (length c.loop-k.out) c.loop-k.out (omega arith) in
    listed_all _ c.args.part.now lifted lifts (g.M.WordMonoid.ops m) c.args.start c.loop-k.out c.loop-k.k (omega (arith, c.loop-k-test.false, c.loop-k.auto.out, c.loop-k.auto.k-end, c.requires.wide)) (sym whole ∙ i.listed lifted lifts)
