-- What a stretch knows by itself is one: the places that the definitions search for.
use Rattle.std.proofs.Common.{◌≡◌, ℕ, zero, suc, ◌+◌, ◌-◌, ◌<◌, ◌≤◌, ◌⊎◌, inl, inr, max, Bool, List, [], ◌∷◌, length, take, drop, Some, refl, sym, ap, ◌∙◌, subst, arith, length-drop, get_or-drop, get_or-take}
use Rattle.std.specs.Prelude.{nat_le, if◌then◌else◌}
use Rattle.std.specs.List.{position_from}
use Rattle.std.proofs.lemmas.Bool.{cases_lt}
use Rattle.std.proofs.lemmas.List.{length-take-le, take_all}
use Rattle.std.proofs.lemmas.List.FromFn.{get_or-map-range_with_len}
use Rattle.list_cuts.specs.Cuts.{number_at}
use Rattle.row_kin.specs.Nearest.{next_le, prev_below, place_or, behind, nexts}
use Rattle.row_kin.specs.Searched.{IsNextUntil, IsBeginFrom}
use Rattle.row_kin.specs.Cutoff.{next_until, begin_from}
use Rattle.row_kin.proofs.Whole.{le_true, le_false, lt_true, lt_false}

-- v is the place of the first number that is at most x, where the first place is a
record FirstAt (ns : List ℕ) (a x v : ℕ) : Type 0 where
  pub low : a ≤ v
  pub within : v < a + length ns
  pub least : number_at ns (v - a) ≤ x
  pub passed : (j : ℕ) → a + j < v → x < number_at ns j

-- there is none
record NoneAt (ns : List ℕ) (x n v : ℕ) : Type 0 where
  pub passed : (j : ℕ) → j < length ns → x < number_at ns j
  pub is : v ≡ n

first_here : (m : ℕ) (ns : List ℕ) (a x : ℕ) → m ≤ x → FirstAt (m ∷ ns) a x a
first_here m ns a x le = record {
  low = omega arith;
  within = omega arith;
  least = subst (λ (j : ℕ). number_at (m ∷ ns) j ≤ x) (let e : 0 ≡ a - a = omega arith in e) le;
  passed = λ j l. absurd (omega arith);
}

first_more : (m : ℕ) (ns : List ℕ) (a x n v : ℕ) → x < m → FirstAt ns (a + 1) x v ⊎ NoneAt ns x n v → FirstAt (m ∷ ns) a x v ⊎ NoneAt (m ∷ ns) x n v
first_more m ns a x n v over (inl f) = inl (record {
  low = let l = f.low in omega arith;
  within = let w = f.within in omega arith;
  least = let l = f.low in subst (λ (j : ℕ). number_at (m ∷ ns) j ≤ x) (let e : suc (v - (a + 1)) ≡ v - a = omega arith in e) f.least;
  passed = λ j l. passed j l;
})
  where
    passed : (j : ℕ) → a + j < v → x < number_at (m ∷ ns) j
    passed zero l = over
    passed (suc j) l = f.passed j (omega arith)
first_more m ns a x n v over (inr f) = inr (record { passed = λ j l. passed j l; is = f.is })
  where
    passed : (j : ℕ) → j < suc (length ns) → x < number_at (m ∷ ns) j
    passed zero l = over
    passed (suc j) l = f.passed j (omega arith)

searched : (ns : List ℕ) (a x n : ℕ) → FirstAt ns a x (place_or n (position_from (λ v. nat_le v x) a ns)) ⊎ NoneAt ns x n (place_or n (position_from (λ v. nat_le v x) a ns))
searched [] a x n = inr (record { passed = λ j l. absurd (omega arith); is = refl })
searched (m ∷ ns) a x n = by (cases_lt x m) (searched ns (a + 1) x n)
  where
    by : (x < m) ⊎ (m ≤ x) → FirstAt ns (a + 1) x (place_or n (position_from (λ v. nat_le v x) (a + 1) ns)) ⊎ NoneAt ns x n (place_or n (position_from (λ v. nat_le v x) (a + 1) ns)) → FirstAt (m ∷ ns) a x (place_or n (position_from (λ v. nat_le v x) a (m ∷ ns))) ⊎ NoneAt (m ∷ ns) x n (place_or n (position_from (λ v. nat_le v x) a (m ∷ ns)))
    by (inl over) rest =
        subst (λ (c : Bool). FirstAt (m ∷ ns) a x (place_or n (if c then Some a else position_from (λ v. nat_le v x) (a + 1) ns)) ⊎ NoneAt (m ∷ ns) x n (place_or n (if c then Some a else position_from (λ v. nat_le v x) (a + 1) ns))) (sym (le_false m x over))
        (first_more m ns a x n (place_or n (position_from (λ v. nat_le v x) (a + 1) ns)) over rest)
    by (inr le) rest =
        subst (λ (c : Bool). FirstAt (m ∷ ns) a x (place_or n (if c then Some a else position_from (λ v. nat_le v x) (a + 1) ns)) ⊎ NoneAt (m ∷ ns) x n (place_or n (if c then Some a else position_from (λ v. nat_le v x) (a + 1) ns))) (sym (le_true m x le))
        (inl (first_here m ns a x le))

-- t is the place behind the nearest number before place k that is below x
record BehindAt (ns : List ℕ) (x k t : ℕ) : Type 0 where
  pub high : t ≤ k
  pub above : (j : ℕ) → t ≤ j → j < k → x ≤ number_at ns j
  pub before : (j : ℕ) → j + 1 ≡ t → number_at ns j < x

behind_searched : (ns : List ℕ) (x k : ℕ) → BehindAt ns x k (behind (prev_below ns k x))
behind_searched ns x zero = record { high = omega arith; above = λ j a b. absurd (omega arith); before = λ j e. absurd (omega arith) }
behind_searched ns x (suc k) = by (cases_lt (number_at ns k) x) (behind_searched ns x k)
  where
    by : (number_at ns k < x) ⊎ (x ≤ number_at ns k) → BehindAt ns x k (behind (prev_below ns k x)) → BehindAt ns x (suc k) (behind (prev_below ns (suc k) x))
    by (inl lt) rest =
        subst (λ (c : Bool). BehindAt ns x (suc k) (behind (if c then Some k else prev_below ns k x))) (sym (lt_true (number_at ns k) x lt))
        (record {
          high = omega arith;
          above = λ j a b. absurd (omega arith);
          before = λ j e. let q : k ≡ j = omega arith in subst (λ (i : ℕ). number_at ns i < x) q lt;
        })
    by (inr ge) rest =
        subst (λ (c : Bool). BehindAt ns x (suc k) (behind (if c then Some k else prev_below ns k x))) (sym (lt_false (number_at ns k) x ge))
        (record {
          high = let h = rest.high in omega arith;
          above = λ j a b. over j a b (cases_lt j k);
          before = rest.before;
        })
      where
        over : (j : ℕ) → behind (prev_below ns k x) ≤ j → j < suc k → (j < k) ⊎ (k ≤ j) → x ≤ number_at ns j
        over j a b (inl less) = rest.above j a less
        over j a b (inr more) = let q : k ≡ j = omega arith in subst (λ (i : ℕ). x ≤ number_at ns i) q ge

module _ (xs bs : List ℕ) where
  -- the places behind k, before `to`
  number_between : (to k j : ℕ) → k + 1 + j < to → number_at (drop (k + 1) (take to xs)) j ≡ number_at xs (k + 1 + j)
  number_between to k j lt = get_or-drop (k + 1) (take to xs) j 0 ∙ get_or-take to xs (k + 1 + j) 0 lt

  pub next_until_is : (to k : ℕ) → k < to → to ≤ length xs → IsNextUntil xs bs to k (next_until xs bs to k)
  next_until_is to k here within = by (next_until xs bs to k) (searched (drop (k + 1) (take to xs)) (k + 1) (number_at bs k) (length xs))
    where
      many : length (drop (k + 1) (take to xs)) ≡ to - (k + 1)
      many = length-drop (k + 1) (take to xs) ∙ ap (λ (n : ℕ). n - (k + 1)) (length-take-le to xs within)

      -- a place is found by its number behind k
      over : (m : ℕ) → k < m → m < to → ((j : ℕ) → j ≡ m - (k + 1) → number_at bs k < number_at (drop (k + 1) (take to xs)) j) → number_at bs k < number_at xs m
      over m a b h =
          let e : k + 1 + (m - (k + 1)) ≡ m = omega arith in
          subst (λ (i : ℕ). number_at bs k < number_at xs i) e
          (subst (λ (n : ℕ). number_at bs k < n) (number_between to k (m - (k + 1)) (omega arith)) (h (m - (k + 1)) refl))

      by : (v : ℕ) → FirstAt (drop (k + 1) (take to xs)) (k + 1) (number_at bs k) v ⊎ NoneAt (drop (k + 1) (take to xs)) (number_at bs k) (length xs) v → IsNextUntil xs bs to k v
      by v (inl f) =
          let m = many in
          let l = f.low in
          let w = f.within in
          let e : k + 1 + (v - (k + 1)) ≡ v = omega arith in
          record {
            behind = omega arith;
            passed = λ j a b c. over j a b (λ i q. f.passed i (omega arith));
            found = λ lt. subst (λ (i : ℕ). number_at xs i ≤ number_at bs k) e (subst (λ (n : ℕ). n ≤ number_at bs k) (number_between to k (v - (k + 1)) (omega arith)) f.least);
            none = λ le. absurd (omega arith);
          }
      by v (inr f) =
          let m = many in
          let i = f.is in
          record {
            behind = omega arith;
            passed = λ j a b c. over j a b (λ i q. f.passed i (omega arith));
            found = λ lt. absurd (omega arith);
            none = λ le. f.is;
          }

  -- the next of all places
  pub next_at : (k : ℕ) → k < length xs → IsNextUntil xs bs (length xs) k (number_at (nexts xs bs) k)
  next_at k lt =
      subst (IsNextUntil xs bs (length xs) k)
      (ap (λ (ns : List ℕ). place_or (length xs) (next_le ns k (number_at bs k))) (take_all (length xs) xs (omega arith))
      ∙ sym (get_or-map-range_with_len (λ i. place_or (length xs) (next_le xs i (number_at bs i))) 0 (length xs) k k 0 lt (omega arith)))
      (next_until_is (length xs) k lt (omega arith))

  pub begin_from_is : (from k : ℕ) → from ≤ k → IsBeginFrom xs bs from k (begin_from xs bs from k)
  begin_from_is from k low = by (behind (prev_below bs k (number_at xs k))) (behind_searched bs (number_at xs k) k)
    where
      by : (t : ℕ) → BehindAt bs (number_at xs k) k t → IsBeginFrom xs bs from k (max from t)
      by t b = record {
        low = omega arith;
        high = let h = b.high in omega arith;
        above = λ j a c. b.above j (omega arith) c;
        before = λ j e a. b.before j (omega arith);
      }
