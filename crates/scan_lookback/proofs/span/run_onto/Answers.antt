use Rattle.std.proofs.Common.{◌≡◌, ◌++◌, map, fold, take, length, Some, refl, sym, ap, ◌∙◌, subst, arith}
use Rattle.std.specs.List.{range_with_len}
use Rattle.std.proofs.lemmas.List.{append-nil, take_all}
use Rattle.std.proofs.lemmas.Option.{slice_get-get_or}
use Rattle.word_monoid.specs.Monoid.{IsItem}
use Rattle.scan_lookback.specs.Laws.Cutting.{lifted_more, listed_behind}
use Rattle.scan_lookback.proofs.span.run_onto.Goals as goal

pub loop-x-init : goal.loop-x-init
loop-x-init g c = record { joined = λ lifted lifts. refl; listed = λ lifted lifts. sym (append-nil c.args.out.now.items); item = c.requires.start }

pub loop-x-preserved : goal.loop-x-preserved
loop-x-preserved g c =
    let m = c.args.monoid.now in
    let at = slice_get-get_or c.args.part.now c.loop-x.x-index c.x-item.result (omega arith) ∙ ap Some (sym c.x-item.is) in
    record {
      joined = λ lifted lifts. lifted_more _ c.args.part.now lifted lifts (g.M.WordMonoid.ops m) c.args.start c.loop-x.sum c.loop-x.x-index c.x-item.result c.lift.result c.join-sum.result at c.lift.ensures c.join-sum.ensures (c.loop-x.invariant.joined lifted lifts);
      listed = λ lifted lifts. listed_behind (g.M.WordMonoid.ops m) c.args.start lifted c.loop-x.x-index c.args.out.now.items _ _ c.loop-x.sum (c.loop-x.invariant.listed lifted lifts) (c.loop-x.invariant.joined lifted lifts) c.in_ok-push.ensures.items;
      item = subst (IsItem (g.M.WordMonoid.ops m)) (sym c.join-sum.ensures) ((g.met.M.WordMonoid.lawful m).join_is_item c.loop-x.sum c.lift.result c.loop-x.invariant.item (c.requires.items c.loop-x.x-index c.x-item.result c.lift.result at c.lift.ensures));
    }

pub returns-clause-listed : goal.returns-clause-listed
returns-clause-listed g c =
    let m = c.args.monoid.now in λ lifted lifts.
    let end : c.loop-x.x-index ≡ length c.args.part.now = omega arith in
    c.loop-x.invariant.listed lifted lifts ∙ ap (λ n. c.args.out.now.items ++ map (λ k. fold (g.M.WordMonoid.ops m).join c.args.start (take k lifted)) (range_with_len 0 n)) (end ∙ sym lifts.as_many)

pub returns-clause-joined : goal.returns-clause-joined
returns-clause-joined g c =
    let m = c.args.monoid.now in λ lifted lifts.
    let end : c.loop-x.x-index ≡ length c.args.part.now = omega arith in
    c.loop-x.invariant.joined lifted lifts ∙ ap (fold (g.M.WordMonoid.ops m).join c.args.start) (ap (λ n. take n lifted) (end ∙ sym lifts.as_many) ∙ take_all (length lifted) lifted (omega arith))
