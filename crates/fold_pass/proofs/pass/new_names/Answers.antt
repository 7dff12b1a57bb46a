use Rattle.std.proofs.Common.{◌∙◌, length, map, get_or, ap, sym, subst, arith}
use Rattle.folded_rows.specs.Columns.{number_in}
use Rattle.fold_pass.specs.Folded.{AreNewNames, rank_in, word_by}
use Rattle.fold_pass.proofs.Refolded.{kept_rows_few, new_names_are}
use Rattle.fold_pass.proofs.pass.new_names.Goals as goal

pub meant-requires-2-clause-few : goal.meant-requires-2-clause-few
meant-requires-2-clause-few g c κs within =
    let s = c.args.staying.now in
    let f = kept_rows_few c.args.columns.now c.args.values.now s.kept.items s.marks.items s.ranks.items c.requires.few c.requires.staying in
    let e = ap length c.as_slice-kept.ensures.value in
    omega arith

pub numbers-requires-2-clause-few : goal.numbers-requires-2-clause-few
numbers-requires-2-clause-few g c κs within =
    let s = c.args.staying.now in
    let f = kept_rows_few c.args.columns.now c.args.values.now s.kept.items s.marks.items s.ranks.items c.requires.few c.requires.staying in
    let e = ap length c.as_slice-kept.ensures.value in
    omega arith

pub returns : goal.returns
returns g c =
    let s = c.args.staying.now in
    let columns = c.args.columns.now in
    let values = c.args.values.now in
    let kept = c.as_slice-kept.ensures.value in
    let ranks = c.as_slice-ranks.ensures.value in
    subst (AreNewNames columns values c.args.names.now) (sym c.new.ensures)
    (new_names_are columns values s.kept.items s.marks.items s.ranks.items c.requires.few c.requires.staying c.args.names.now c.in_ok-meant.meant.items c.in_ok-numbers.numbers.items c.rank.result
    (c.in_ok-meant.ensures ∙ (λ i. map (λ k. word_by (c.as_slice.ensures.value i) (ranks i) (get_or (c.meant.ensures i) k 4294967295)) (kept i)))
    (c.in_ok-numbers.ensures ∙ (λ i. map (λ k. number_in (c.numbers.ensures i) k) (kept i)))
    (c.rank.ensures ∙ (λ i. rank_in (ranks i) (c.main.ensures i))))
