use Rattle.std.proofs.Common.{◌≡◌, suc, ◌+◌, ◌<◌, [], ◌∷◌, length, sym, ap, ◌∙◌, subst, arith}
use Rattle.std.proofs.lemmas.List.{length-append}
use Rattle.row_pieces.specs.Pieces.{Standing, acts}
use Rattle.row_pieces.specs.Reduced.{reduced}
use Rattle.row_pieces.specs.Sound.{AreSound, IsSound, rows_of, weights}
use Rattle.row_pieces.specs.Steps.{IsCutOff}
use Rattle.row_pieces.specs.Laws.Weighed.{reduced_sound, reduced_weigh}
use Rattle.list_cuts.specs.Cuts.{start_of}
use Rattle.tree_passes.specs.Stretches.{IsHanded, nowhere, pieces_of_stretch, standing_before}
use Rattle.tree_passes.proofs.Ranges.{each_next, item_there}
use Rattle.tree_passes.proofs.Stretched.{few_of, handed_upper, handed_whole, reduced_next, sound_of, stand_few, stand_sound}
use Rattle.tree_passes.proofs.standings.hand_out.Goals as goal

pub act_all-requires-clause-sound : goal.act_all-requires-clause-sound
act_all-requires-clause-sound c = subst IsSound (sym c.loop-pieces.invariant.stands) (stand_sound c.args.parse.numbers.now c.args.parse.ends.now c.requires.cut (start_of c.args.parse.ends.now c.loop-pieces.pieces-index))

pub act_all-requires-clause-pieces : goal.act_all-requires-clause-pieces
act_all-requires-clause-pieces c =
    let numbers = c.args.parse.numbers.now in
    let ends = c.args.parse.ends.now in
    let k = c.loop-pieces.pieces-index in
    let xs = pieces_of_stretch numbers ends k in
    let is : c.as_slice-in-loop-pieces.result.now ≡ reduced xs = c.as_slice-in-loop-pieces.ensures.value ∙ ap (λ v. v.items) c.pieces-item.is ∙ item_there (λ l. l.items) (λ n. reduced (pieces_of_stretch numbers ends n)) c.args.lists.now k c.pieces-item.result c.requires.lists c.loop-pieces-test.true in
    subst AreSound (sym is) (reduced_sound xs (sound_of numbers ends c.requires.cut k))

pub act_all-requires-clause-fits : goal.act_all-requires-clause-fits
act_all-requires-clause-fits c =
    let numbers = c.args.parse.numbers.now in
    let ends = c.args.parse.ends.now in
    let k = c.loop-pieces.pieces-index in
    let xs = pieces_of_stretch numbers ends k in
    let is : c.as_slice-in-loop-pieces.result.now ≡ reduced xs = c.as_slice-in-loop-pieces.ensures.value ∙ ap (λ v. v.items) c.pieces-item.is ∙ item_there (λ l. l.items) (λ n. reduced (pieces_of_stretch numbers ends n)) c.args.lists.now k c.pieces-item.result c.requires.lists c.loop-pieces-test.true in
    let there : k < length c.args.lists.now = c.loop-pieces-test.true in
    let all = c.requires.all_but_last in
    let a = ap rows_of c.loop-pieces.invariant.stands in
    let b = ap weights is in
    let w = reduced_weigh xs in
    let f = few_of numbers ends c.requires.cut k in
    let s = stand_few numbers ends c.requires.cut (start_of ends k) in
    let o = c.requires.cut.cuts.order k (omega arith) in
    let i = c.requires.cut.cuts.within k (omega arith) in
    let n = c.requires.cut.few in
    omega arith

pub loop-pieces-preserved : goal.loop-pieces-preserved
loop-pieces-preserved c =
    let numbers = c.args.parse.numbers.now in
    let ends = c.args.parse.ends.now in
    let k = c.loop-pieces.pieces-index in
    let xs = pieces_of_stretch numbers ends k in
    let there : k < length c.args.lists.now = c.loop-pieces-test.true in
    let all = c.requires.all_but_last in
    let more : suc k ≡ k + 1 = omega arith in
    let item : c.pieces-item.result.items ≡ reduced xs = ap (λ v. v.items) c.pieces-item.is ∙ item_there (λ l. l.items) (λ n. reduced (pieces_of_stretch numbers ends n)) c.args.lists.now k c.pieces-item.result c.requires.lists there in
    let upper : Standing = c.in_ok-cut_off.field-0 in
    let off : IsCutOff c.as_slice.result.now upper (standing_before numbers ends k) = subst (IsCutOff c.as_slice.result.now upper) c.loop-pieces.invariant.stands c.in_ok-cut_off.ensures in
    let m = ap length c.in_ok-push.ensures.items in
    let l = length-append c.loop-pieces.handed.items (upper ∷ []) in
    let n = c.loop-pieces.invariant.many in
    record {
      stands =
          c.in_ok-act_all.ensures
          ∙ ap (acts c.as_slice-in-loop-pieces.result.now) c.loop-pieces.invariant.stands
          ∙ reduced_next numbers ends c.requires.cut k (omega arith) c.as_slice-in-loop-pieces.result.now (c.as_slice-in-loop-pieces.ensures.value ∙ item)
          ∙ ap (standing_before numbers ends) more;
      many = omega arith;
      handed = each_next (IsHanded numbers ends) nowhere c.loop-pieces.handed.items c.push.new.self.items upper k n c.in_ok-push.ensures.items c.loop-pieces.invariant.handed
          (handed_upper numbers ends c.requires.cut k (omega arith) c.as_slice.result.now (c.as_slice.ensures.value ∙ item) upper off);
    }

pub returns : goal.returns
returns c =
    let numbers = c.args.parse.numbers.now in
    let ends = c.args.parse.ends.now in
    let k = c.loop-pieces.pieces-index in
    let a = c.loop-pieces.auto.pieces-index-end in
    let b = c.loop-pieces-test.false in
    let all = c.requires.all_but_last in
    let m = ap length c.in_ok-push-2.ensures.items in
    let l = length-append c.loop-pieces.handed.items (c.loop-pieces.standing ∷ []) in
    let n = c.loop-pieces.invariant.many in
    record {
      many = omega arith;
      each = λ j h. each_next (IsHanded numbers ends) nowhere c.loop-pieces.handed.items c.push-2.new.self.items c.loop-pieces.standing k n c.in_ok-push-2.ensures.items c.loop-pieces.invariant.handed
          (subst (IsHanded numbers ends k) (sym c.loop-pieces.invariant.stands) (handed_whole numbers ends c.requires.cut k)) j (omega arith);
    }
