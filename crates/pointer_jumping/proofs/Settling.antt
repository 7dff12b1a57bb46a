-- Whether a filter of numbers leaves any.
use Rattle.std.proofs.Common.{◌≡◌, ℕ, zero, suc, ◌<◌, Bool, true, false, List, [], ◌∷◌, length, get_or, filter, cond, refl, sym, ap, ◌∙◌, subst, arith}
use Rattle.std.specs.List.{range_with_len}
use Rattle.std.proofs.lemmas.List.FromFn.{length-range_with_len, get_or-range_with_len}

module _ (keep : ℕ → Bool) where
  none_kept : (ks : List ℕ) → length (filter keep ks) ≡ 0 → (i : ℕ) → i < length ks → keep (get_or ks i 0) ≡ false
  none_kept [] none i lt = absurd (omega arith)
  none_kept (k ∷ ks) none i lt = by (keep k) refl (none_kept ks) none i lt
    where
      by : (b : Bool) → keep k ≡ b → (length (filter keep ks) ≡ 0 → (i : ℕ) → i < length ks → keep (get_or ks i 0) ≡ false)
          → length (cond b (k ∷ filter keep ks) (filter keep ks)) ≡ 0 → (i : ℕ) → i < suc (length ks) → keep (get_or (k ∷ ks) i 0) ≡ false
      by true e rest none i lt = absurd (omega arith)
      by false e rest none zero lt = e
      by false e rest none (suc i) lt = rest none i (omega arith)

  one_kept : (ks : List ℕ) → 0 < length (filter keep ks) → (i : ℕ) × (i < length ks) × (keep (get_or ks i 0) ≡ true)
  one_kept [] some = absurd (omega arith)
  one_kept (k ∷ ks) some = by (keep k) refl (one_kept ks) some
    where
      by : (b : Bool) → keep k ≡ b → (0 < length (filter keep ks) → (i : ℕ) × (i < length ks) × (keep (get_or ks i 0) ≡ true))
          → 0 < length (cond b (k ∷ filter keep ks) (filter keep ks)) → (i : ℕ) × (i < suc (length ks)) × (keep (get_or (k ∷ ks) i 0) ≡ true)
      by true e rest some = (0, omega arith, e)
      by false e rest some = let r = rest some in let lt = r.1 in (suc r.0, omega arith, r.2)

  module _ (n : ℕ) (ks : List ℕ) (is : ks ≡ filter keep (range_with_len 0 n)) where
    number : (i : ℕ) → i < n → get_or (range_with_len 0 n) i 0 ≡ i
    number i lt = get_or-range_with_len 0 n i 0 lt ∙ omega arith

    -- where no number is kept
    pub none_left : length ks ≡ 0 → (i : ℕ) → i < n → keep i ≡ false
    none_left none i lt =
        let e = length-range_with_len 0 n in
        subst (λ (k : ℕ). keep k ≡ false) (number i lt) (none_kept (range_with_len 0 n) (sym (ap length is) ∙ none) i (omega arith))

    -- and where one is
    pub one_left : 0 < length ks → (i : ℕ) × (i < n) × (keep i ≡ true)
    one_left some =
        let e = length-range_with_len 0 n in
        let r = one_kept (range_with_len 0 n) (subst (λ (l : List ℕ). 0 < length l) is some) in
        let lt : r.0 < n = (let inside = r.1 in omega arith) in
        (r.0, lt, subst (λ (k : ℕ). keep k ≡ true) (number r.0 lt) r.2)
