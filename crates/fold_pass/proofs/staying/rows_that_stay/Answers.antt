use Rattle.std.proofs.Common.{◌∙◌, Bool, false, length, map, ap, sym, slice_index_or, arith, List}
use Rattle.std.specs.List.{range_with_len, filter}
use Rattle.std.proofs.lemmas.List.FromFn.{length-map-range_with_len}
use Rattle.par_passes.specs.Laws.Calling.{if_ok}
use Rattle.word_monoid.specs.Folds.{prefixes}
use Rattle.word_monoid.specs.Instances.{count}
use Rattle.fold_pass.specs.Staying.{bit, stays_by}
use Rattle.fold_pass.proofs.Stayed.{are_staying, marks_there}
use Rattle.fold_pass.proofs.staying.rows_that_stay.Goals as goal

pub staying_by-requires-clause-few : goal.staying_by-requires-clause-few
staying_by-requires-clause-few g c κs within =
    let n = ap length c.in_ok-marks.ensures ∙ length-map-range_with_len (stays_by c.args.columns.now c.args.values.now c.as_slice.result.now) 0 (length c.args.columns.now.kinds) in
    let f = c.requires.few in
    omega arith

pub returns : goal.returns
returns g c = if_ok c.staying_by.result c.staying_by.ensures (λ v p.
    let columns = c.args.columns.now in
    let values = c.args.values.now in
    let by = c.as_slice.ensures.value ∙ c.in_ok-reaches.ensures in
    let marks = marks_there columns values c.in_ok-marks.marks.items (c.in_ok-marks.ensures ∙ ap (λ r. map (stays_by columns values r) (range_with_len 0 (length columns.kinds))) by) in
    are_staying columns values c.requires.few v.marks.items v.kept.items v.ranks.items (p.0 ∙ marks) (p.1 ∙ ap (λ (m : List Bool). filter (λ k. slice_index_or m k false) (range_with_len 0 (length m))) (sym p.0)) (p.2 ∙ ap (λ (m : List Bool). prefixes count (map bit m)) (sym p.0)))
