-- One step down: from a level to the one below it.
use Rattle.std.proofs.Common.{◌≡◌, ℕ, ◌+◌, ◌-◌, ◌*◌, ◌/◌, ◌%◌, ◌<◌, ◌≤◌, ◌⊎◌, inl, inr, List, length, ℤ, ◌<ℤ◌, ◌≤ℤ◌, sym, subst, arith}
use Rattle.std.proofs.lemmas.Int.{ints, by_lt_z}
use Rattle.std.proofs.lemmas.Bool.{cases_lt}
use Rattle.near_smaller.specs.Nearest.{value_at, AreAbove, IsPrevious, IsNext}
use Rattle.near_smaller.specs.Levels.{HalvedTo}
use Rattle.near_smaller.specs.Climbs.{PassesBefore, PassesBehind}

abbrev IsAbove : List ℤ → ℤ → ℕ → Type 0
IsAbove values x k = x <ℤ value_at values k

-- a value is above x if the minimum of its pair is
above_pair : (lower upper : List ℤ) (x : ℤ) (k : ℕ) → HalvedTo lower upper → k < length lower → IsAbove upper x (k / 2) → IsAbove lower x k
above_pair lower upper x k halved within above = let least = halved.below k within in omega (arith, ints)

-- before a block: what is above x in the upper level from s on is so in the lower one
pub rest_before : (lower upper : List ℤ) (e s : ℕ) (x : ℤ) → HalvedTo lower upper → e ≤ length lower → PassesBefore lower e x → AreAbove upper x s (e / 2) → AreAbove lower x (2 * s) e
rest_before lower upper e s x halved within passes above k low high = by (cases_lt (k / 2) (e / 2))
  where
    by : ((k / 2) < (e / 2)) ⊎ ((e / 2) ≤ (k / 2)) → IsAbove lower x k
    by (inl lt) = above_pair lower upper x k halved (omega arith) (above (k / 2) (omega arith) lt)
    by (inr le) =
        let odd : e % 2 ≡ 1 = omega arith in
        let is : e - 1 ≡ k = omega arith in
        subst (IsAbove lower x) is (passes odd)

-- the nearest before a block in the upper level, and the half of it that has the nearest
pub step_before : (lower upper : List ℤ) (e : ℕ) (x : ℤ) (j p : ℕ) → HalvedTo lower upper → e ≤ length lower → PassesBefore lower e x → IsPrevious upper (e / 2) x j
    → (value_at lower (2 * j + 1) ≤ℤ x → p ≡ 2 * j + 1) → (x <ℤ value_at lower (2 * j + 1) → p ≡ 2 * j) → IsPrevious lower e x p
step_before lower upper e x j p halved within passes near second first =
    by_lt_z {P = IsPrevious lower e x p} x (value_at lower (2 * j + 1)) (λ above. subst (IsPrevious lower e x) (sym (first above)) (at_first above)) (λ le. subst (IsPrevious lower e x) (sym (second le)) (at_second le))
  where
    rest : AreAbove lower x (2 * (j + 1)) e
    rest = rest_before lower upper e (j + 1) x halved within passes near.between

    at_second : value_at lower (2 * j + 1) ≤ℤ x → IsPrevious lower e x (2 * j + 1)
    at_second le = record { before = (let b = near.before in omega arith); at_most = le; between = λ k low high. rest k (omega arith) high }

    at_first : x <ℤ value_at lower (2 * j + 1) → IsPrevious lower e x (2 * j)
    at_first above = record {
      before = (let b = near.before in omega arith);
      at_most = least (halved.is_one j (let b = near.before in let s = halved.size in omega arith));
      between = λ k low high. between k low high (cases_lt (2 * j + 1) k);
    }
      where
        least : (value_at upper j ≡ value_at lower (2 * j)) ⊎ ((2 * j + 1 < length lower) × (value_at upper j ≡ value_at lower (2 * j + 1))) → value_at lower (2 * j) ≤ℤ x
        least (inl is) = let most = near.at_most in omega (arith, ints)
        least (inr is) = let most = near.at_most in let same = is.1 in absurd (omega (arith, ints))

        between : (k : ℕ) → 2 * j + 1 ≤ k → k < e → (2 * j + 1 < k) ⊎ (k ≤ 2 * j + 1) → IsAbove lower x k
        between k low high (inl lt) = rest k (omega arith) high
        between k low high (inr le) = let is : 2 * j + 1 ≡ k = omega arith in subst (IsAbove lower x) is above

-- behind a block: what is above x in the upper level up to t is so in the lower one
pub rest_behind : (lower upper : List ℤ) (b t : ℕ) (x : ℤ) → HalvedTo lower upper → PassesBehind lower b x → AreAbove upper x (b / 2 + 1) t → (k : ℕ) → b + 1 ≤ k → k < 2 * t → k < length lower → x <ℤ value_at lower k
rest_behind lower upper b t x halved passes above k low high within = by (cases_lt (b / 2) (k / 2))
  where
    by : ((b / 2) < (k / 2)) ⊎ ((k / 2) ≤ (b / 2)) → IsAbove lower x k
    by (inl lt) = above_pair lower upper x k halved within (above (k / 2) (omega arith) (omega arith))
    by (inr le) =
        let even : b % 2 ≡ 0 = omega arith in
        let is : b + 1 ≡ k = omega arith in
        let inside : b + 1 < length lower = omega arith in
        subst (IsAbove lower x) is (passes even inside)

-- none in the upper level is none in the lower one
pub none_behind : (lower upper : List ℤ) (b : ℕ) (x : ℤ) → HalvedTo lower upper → PassesBehind lower b x → AreAbove upper x (b / 2 + 1) (length upper) → AreAbove lower x (b + 1) (length lower)
none_behind lower upper b x halved passes above k low high = rest_behind lower upper b (length upper) x halved passes above k low (let s = halved.size in omega arith) high

-- the nearest behind a block in the upper level, and the half of it that has the nearest
pub step_behind : (lower upper : List ℤ) (b : ℕ) (x : ℤ) (j p : ℕ) → HalvedTo lower upper → PassesBehind lower b x → IsNext upper (b / 2) x j
    → (value_at lower (2 * j) ≤ℤ x → p ≡ 2 * j) → (x <ℤ value_at lower (2 * j) → p ≡ 2 * j + 1) → IsNext lower b x p
step_behind lower upper b x j p halved passes near first second =
    by_lt_z {P = IsNext lower b x p} x (value_at lower (2 * j)) (λ above. subst (IsNext lower b x) (sym (second above)) (at_second above (halved.is_one j near.within))) (λ le. subst (IsNext lower b x) (sym (first le)) (at_first le))
  where
    inside : 2 * j < length lower
    inside = let w = near.within in let s = halved.size in omega arith

    rest : (k : ℕ) → b + 1 ≤ k → k < 2 * j → IsAbove lower x k
    rest k low high = let w = inside in rest_behind lower upper b j x halved passes near.between k low high (omega arith)

    at_first : value_at lower (2 * j) ≤ℤ x → IsNext lower b x (2 * j)
    at_first le = record { behind = (let w = near.behind in omega arith); within = inside; at_most = le; between = rest }

    at_second : x <ℤ value_at lower (2 * j) → (value_at upper j ≡ value_at lower (2 * j)) ⊎ ((2 * j + 1 < length lower) × (value_at upper j ≡ value_at lower (2 * j + 1))) → IsNext lower b x (2 * j + 1)
    at_second above (inl is) = let most = near.at_most in absurd (omega (arith, ints))
    at_second above (inr is) = record {
      behind = (let w = near.behind in omega arith);
      within = is.0;
      at_most = (let most = near.at_most in let same = is.1 in omega (arith, ints));
      between = λ k low high. between k low high (cases_lt k (2 * j));
    }
      where
        between : (k : ℕ) → b + 1 ≤ k → k < 2 * j + 1 → (k < 2 * j) ⊎ (2 * j ≤ k) → IsAbove lower x k
        between k low high (inl lt) = rest k low lt
        between k low high (inr le) = let at : 2 * j ≡ k = omega arith in subst (IsAbove lower x) at above
