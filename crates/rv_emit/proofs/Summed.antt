-- Sums of 32 bits are the sums, where these are small.
use Rattle.std.proofs.Common.{◌≡◌, ℕ, zero, suc, ◌+◌, ◌*◌, ◌%◌, ◌≤◌, min, List, [], ◌∷◌, length, map, get_or, refl, ap, ◌∙◌, arith}
use Rattle.std.proofs.lemmas.List.{ext_get_or}
use Rattle.limits.specs.Limits.{most_rows}
use Rattle.word_monoid.specs.Folds.{prefixes}
use Rattle.word_monoid.specs.Laws.Folds.{length-prefixes}
use Rattle.word_monoid.specs.Instances.{count}
use Rattle.rv_select.specs.Laws.Laid.{prefix_first, prefix_step}
use Rattle.kin_pass.specs.Sums.{sum32}

pub same_items : (xs : List ℕ) → map (λ x. x) xs ≡ xs
same_items [] = refl
same_items (x ∷ xs) = ap (λ l. x ∷ l) (same_items xs)

module _ (xs : List ℕ) (short : (k : ℕ) → get_or xs k 0 ≤ 126) (few : length xs ≤ most_rows) where
  both : (k : ℕ) → k ≤ length xs → (get_or (prefixes sum32 xs) k 0 ≡ get_or (prefixes count xs) k 0) × (get_or (prefixes count xs) k 0 ≤ 126 * k)
  both zero le =
      let a : get_or (prefixes sum32 xs) 0 0 ≡ 0 = prefix_first sum32 xs in
      let b : get_or (prefixes count xs) 0 0 ≡ 0 = prefix_first count xs in
      (omega arith, omega arith)
  both (suc k) le =
      let h = both k (omega arith) in
      let same = h.0 in
      let low = h.1 in
      let z : suc k ≡ k + 1 = omega arith in
      let a : get_or (prefixes sum32 xs) (suc k) 0 ≡ min (get_or (prefixes sum32 xs) k 0 + get_or xs k 0) 4294967295 = ap (λ m. get_or (prefixes sum32 xs) m 0) z ∙ prefix_step sum32 xs k (omega arith) in
      let b : get_or (prefixes count xs) (suc k) 0 ≡ (get_or (prefixes count xs) k 0 + get_or xs k 0) % 4611686018427387904 = ap (λ m. get_or (prefixes count xs) m 0) z ∙ prefix_step count xs k (omega arith) in
      let l = short k in
      (omega arith, omega arith)

  pub sums_same : prefixes sum32 xs ≡ prefixes count xs
  sums_same =
      let a = length-prefixes sum32 xs in
      let b = length-prefixes count xs in
      ext_get_or 0 (prefixes sum32 xs) (prefixes count xs) (omega arith) (λ i lt. (both i (omega arith)).0)
