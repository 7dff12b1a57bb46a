-- One more level.
use Rattle.std.proofs.Common.{◌≡◌, ℕ, zero, suc, ◌+◌, ◌-◌, ◌*◌, ◌/◌, ◌^◌, ◌<◌, ◌≤◌, ◌⊎◌, inl, inr, List, [], ◌∷◌, ◌++◌, length, ℤ, refl, sym, ap, ◌∙◌, subst, arith, length-append}
use Rattle.std.specs.Global.{Vec}
use Rattle.std.proofs.Math.Nat.{pow-succ'}
use Rattle.std.proofs.lemmas.Bool.{cases_lt}
use Rattle.std.proofs.lemmas.List.{map-append, get_or_append_left, get_or_push}
use Rattle.near_smaller.specs.Levels.{HalvedTo, AreRising, AreLevels, lists_of, level_at}

-- A level with more than one value, of which this many halvings leave one, has a next level that one halving less does
pub fewer : (k n : ℕ) → k ≤ 60 → 1 < n → n ≤ 2 ^ (60 - k) → (k < 60) × ((n + 1) / 2 ≤ 2 ^ (60 - (k + 1)))
fewer k n some more fits = by (60 - k) (omega arith) fits
  where
    by : (m : ℕ) → m + k ≡ 60 → n ≤ 2 ^ m → (k < 60) × ((n + 1) / 2 ≤ 2 ^ (60 - (k + 1)))
    by zero is le = absurd (omega arith)
    by (suc m) is le =
        let e : m ≡ 60 - (k + 1) = omega arith in
        let twice : 2 ^ suc m ≡ 2 * 2 ^ m = pow-succ' 2 m in
        (omega arith, subst (λ (j : ℕ). (n + 1) / 2 ≤ 2 ^ j) e (omega arith))

module _ (levels : List (List ℤ)) (level upper : List ℤ) where
  abbrev before : List (List ℤ)
  before = levels ++ level ∷ []

  abbrev behind : List (List ℤ)
  behind = (levels ++ level ∷ []) ++ upper ∷ []

  length_before : length (levels ++ level ∷ []) ≡ length levels + 1
  length_before = length-append levels (level ∷ [])

  same_level : (h : ℕ) → h < length levels + 1 → level_at behind h ≡ level_at before h
  same_level h lt = get_or_append_left before (upper ∷ []) [] h (let n = length_before in omega arith)

  pub same_lowest : level_at behind 0 ≡ level_at before 0
  same_lowest = same_level 0 (omega arith)

  pub rising_more : AreRising before → HalvedTo level upper → length levels < 60 → AreRising behind
  rising_more rising halved few = record {
    few = (let n = length_before in let m = length-append before (upper ∷ []) in omega arith);
    halved = λ h lt. at h lt (cases_lt (h + 1) (length levels + 1));
  }
    where
      at : (h : ℕ) → h + 1 < length behind → (h + 1 < length levels + 1) ⊎ (length levels + 1 ≤ h + 1) → HalvedTo (level_at behind h) (level_at behind (h + 1))
      at h lt (inl inside) =
          subst (λ (l : List ℤ). HalvedTo l (level_at behind (h + 1))) (sym (same_level h (omega arith)))
          (subst (HalvedTo (level_at before h)) (sym (same_level (h + 1) inside)) (rising.halved h (let n = length_before in omega arith)))
      at h lt (inr last) =
          let n = length_before in
          let m = length-append before (upper ∷ []) in
          let here : length levels ≡ h = omega arith in
          let next : length before ≡ h + 1 = omega arith in
          let lower : level_at behind h ≡ level = same_level h (omega arith) ∙ get_or_push levels level [] h here in
          let up : level_at behind (h + 1) ≡ upper = get_or_push before upper [] (h + 1) next in
          subst (λ (l : List ℤ). HalvedTo l (level_at behind (h + 1))) (sym lower) (subst (HalvedTo level) (sym up) halved)

-- levels in memory, with one pushed
pub lists_more : (levels pushed : List (Vec ℤ)) (level : Vec ℤ) → pushed ≡ levels ++ level ∷ [] → lists_of pushed ≡ lists_of levels ++ level.items ∷ []
lists_more levels pushed level is = ap lists_of is ∙ map-append (λ (v : Vec ℤ). v.items) levels (level ∷ [])
