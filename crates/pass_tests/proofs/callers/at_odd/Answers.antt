use Rattle.std.proofs.Common.{◌≡◌, ℕ, zero, suc, ◌+◌, ◌-◌, ◌/◌, ◌%◌, ◌<◌, List, [], ◌∷◌, ◌++◌, length, map, get_or, replicate, flat_map, slice_index, sym, ap, ◌∙◌, arith, length-append}
use Rattle.std.specs.List.{range_with_len}
use Rattle.std.proofs.lemmas.List.{length-replicate, append-nil}
use Rattle.std.proofs.lemmas.List.FromFn.{length-range_with_len, get_or-range_with_len, length-map-range_with_len, get_or-map-range_with_len}
use Rattle.std.proofs.lemmas.List.Concat.{flat_map-append}
use Rattle.par_passes.specs.Laws.Calling.{if_ok}
use Rattle.par_passes.specs.Laws.Marking.{range_next}
use Rattle.scatter_rows.specs.Starts.{AreStarts}
use Rattle.pass_tests.proofs.callers.at_odd.Goals as goal

module _ (xs : List ℕ) where
  abbrev odd : ℕ → List ℕ
  odd k = replicate (k % 2) (slice_index xs k)

  long : (n : ℕ) → length (flat_map odd (range_with_len 0 n)) ≡ n / 2
  long zero = omega arith
  long (suc n) =
      let z : 0 + n ≡ n = omega arith in
      let e : suc n ≡ n + 1 = omega arith in
      let more = ap length (ap (flat_map odd) (ap (range_with_len 0) e ∙ range_next 0 n ∙ ap (λ k. range_with_len 0 n ++ k ∷ []) z) ∙ flat_map-append odd (range_with_len 0 n) (n ∷ [])) ∙ length-append (flat_map odd (range_with_len 0 n)) (odd n ++ []) in
      let last = ap length (append-nil (odd n)) ∙ length-replicate (n % 2) (slice_index xs n) in
      let so_far = long n in
      omega arith

  starts_are : (starts : List ℕ) → starts ≡ map (λ k. k / 2) (range_with_len 0 (length xs + 1)) → AreStarts odd starts
  starts_are starts is =
      let wide : length starts ≡ length xs + 1 = ap length is ∙ length-map-range_with_len (λ k. k / 2) 0 (length xs + 1) in (
        omega arith,
        λ c near. ap (λ l. get_or l c 0) is ∙ get_or-map-range_with_len (λ k. k / 2) 0 (length xs + 1) c c 0 (omega arith) (omega arith) ∙ sym (long c),
      )

pub scatter_parts-requires-clause-callable : goal.scatter_parts-requires-clause-callable
scatter_parts-requires-clause-callable g c κs within = λ k d near.
    let n = length c.args.xs.now in
    let starts : length c.as_slice.result.now ≡ n + 1 = ap length (c.as_slice.ensures.value ∙ c.in_ok-starts.ensures) ∙ length-map-range_with_len (λ j. j / 2) 0 (n + 1) in
    let all = length-range_with_len 0 (length c.as_slice.result.now - 1) in
    let less : k < length c.as_slice.result.now - 1 = omega arith in
    omega (arith, get_or-range_with_len 0 (length c.as_slice.result.now - 1) k d less)

pub scatter_parts-requires-clause-starts : goal.scatter_parts-requires-clause-starts
scatter_parts-requires-clause-starts g c κs within = starts_are c.args.xs.now c.as_slice.result.now (c.as_slice.ensures.value ∙ c.in_ok-starts.ensures)

pub returns : goal.returns
returns g c =
    let n = length c.args.xs.now in
    let starts : length c.as_slice.result.now ≡ n + 1 = ap length (c.as_slice.ensures.value ∙ c.in_ok-starts.ensures) ∙ length-map-range_with_len (λ j. j / 2) 0 (n + 1) in
    let many : length c.as_slice.result.now - 1 ≡ n = omega arith in
    if_ok c.scatter_parts.result c.scatter_parts.ensures (λ v all. all ∙ ap (λ (m : ℕ). flat_map (odd c.args.xs.now) (range_with_len 0 m)) many)
