use Rattle.std.proofs.Common.{◌∙◌, length, map, ap, arith}
use Rattle.std.specs.List.{range_with_len}
use Rattle.std.proofs.lemmas.List.{length-map}
use Rattle.folded_rows.specs.Columns.{kind_by, kind_in, number_in, value_in}
use Rattle.fold_pass.specs.Folded.{rank_in, settled_by}
use Rattle.fold_pass.proofs.Refolded.{kept_rows_few, new_columns_are}
use Rattle.fold_pass.proofs.pass.new_columns.Goals as goal

pub kinds-requires-clause-few : goal.kinds-requires-clause-few
kinds-requires-clause-few g c κs within =
    let s = c.args.staying.now in
    let f = kept_rows_few c.args.columns.now c.args.values.now s.kept.items s.marks.items s.ranks.items c.requires.few c.requires.staying in
    let e = ap length c.as_slice-kept.ensures.value in
    omega arith

pub numbers-requires-clause-few : goal.numbers-requires-clause-few
numbers-requires-clause-few g c κs within =
    let s = c.args.staying.now in
    let f = kept_rows_few c.args.columns.now c.args.values.now s.kept.items s.marks.items s.ranks.items c.requires.few c.requires.staying in
    let e = ap length c.as_slice-kept.ensures.value in
    omega arith

pub tokens-requires-clause-few : goal.tokens-requires-clause-few
tokens-requires-clause-few g c κs within =
    let s = c.args.staying.now in
    let f = kept_rows_few c.args.columns.now c.args.values.now s.kept.items s.marks.items s.ranks.items c.requires.few c.requires.staying in
    let e = ap length c.as_slice-kept.ensures.value in
    let k = ap length c.as_slice.ensures.value in
    let m = ap length c.in_ok-kinds.ensures ∙ length-map c.as_slice-kept.result.now (λ k. kind_by (kind_in c.args.columns.now k) (value_in c.args.values.now k)) in
    omega arith

pub lows-requires-clause-few : goal.lows-requires-clause-few
lows-requires-clause-few g c κs within =
    let s = c.args.staying.now in
    let f = kept_rows_few c.args.columns.now c.args.values.now s.kept.items s.marks.items s.ranks.items c.requires.few c.requires.staying in
    let e = ap length c.as_slice-kept.ensures.value in
    omega arith

pub returns : goal.returns
returns g c =
    let s = c.args.staying.now in
    let columns = c.args.columns.now in
    let values = c.args.values.now in
    let kept = c.as_slice-kept.ensures.value in
    new_columns_are columns values s.kept.items s.marks.items s.ranks.items c.requires.few c.requires.staying c.requires.lows c.in_ok-kinds.kinds.items c.in_ok-words.words.items c.in_ok-tokens.tokens.items c.in_ok-lows.lows.items
    (c.in_ok-kinds.ensures ∙ ap (map (λ k. kind_by (kind_in columns k) (value_in values k))) kept)
    (c.in_ok-words.ensures ∙ (λ i. map (λ k. number_in (c.columns.view_is i).tokens k) (kept i)))
    (c.in_ok-tokens.ensures ∙ (λ i. map (settled_by (c.as_slice.ensures.value i) (c.as_slice-2.ensures.value i)) (range_with_len 0 (length (c.as_slice.ensures.value i)))))
    (c.in_ok-lows.ensures ∙ (λ i. map (λ k. rank_in (c.as_slice-3.ensures.value i) (number_in (c.columns.view_is i).lows k)) (kept i)))
