-- Scans give what is said of rows before and behind a row.
use Rattle.std.proofs.Common.{◌≡◌, All, ℕ, zero, suc, ◌+◌, ◌-◌, ◌^◌, ◌<◌, ◌≤◌, Bool, true, false, not, List, [], ◌∷◌, length, map, get_or, Option, Some, refl, sym, ap, ◌∙◌, arith}
use Rattle.std.specs.Prelude.{◌&&◌, if◌then◌else◌, nat_lt, slice_get}
use Rattle.std.specs.List.{range_with_len, filter}
use Rattle.std.proofs.lemmas.Bool.{lt-ltb}
use Rattle.std.proofs.lemmas.List.{ext_get_or}
use Rattle.std.proofs.lemmas.Option.{slice_get-get_or}
use Rattle.std.proofs.lemmas.Simd.{map-map}
use Rattle.std.proofs.lemmas.List.FromFn.{get_or-map-range_with_len, length-map-range_with_len}
use Rattle.word_monoid.specs.Monoid.{Ops}
use Rattle.word_monoid.specs.Folds.{prefix_of, prefixes}
use Rattle.word_monoid.specs.Instances.{count, greatest}
use Rattle.word_monoid.specs.Laws.Folds.{prefix_next}
use Rattle.folded_rows.specs.Columns.{Columns, gives_way, is_bare, is_dropped, many, number_in, rank, reach, span, stays}
use Rattle.fold_pass.specs.Staying.{AreStaying, bit, reaches_of, spans_of, stays_by}

-- what is before a place, by what is before the one before
module _ (ops : Ops ℕ) (f g : ℕ → ℕ) (n : ℕ) (first : g 0 ≡ ops.unit) (next : (m : ℕ) → m < n → g (suc m) ≡ ops.join (g m) (f m)) where
  abbrev items : List ℕ
  items = map f (range_with_len 0 n)

  prefix_is : (m : ℕ) → m ≤ n → prefix_of ops items m ≡ g m
  prefix_is zero h = sym first
  prefix_is (suc m) h =
      let there : get_or items m 0 ≡ f m = get_or-map-range_with_len f 0 n m m 0 (omega arith) (omega arith) in
      let many_is = length-map-range_with_len f 0 n in
      let at : slice_get items m ≡ Some (f m) = slice_get-get_or items m 0 (omega arith) ∙ ap Some there in
      ap (prefix_of ops items) (let z : suc m ≡ m + 1 = omega arith in z)
      ∙ prefix_next ops items m (f m) at
      ∙ ap (λ x. ops.join x (f m)) (prefix_is m (omega arith))
      ∙ sym (next m (omega arith))

  pub prefix_there : (m : ℕ) → m ≤ n → get_or (prefixes ops items) m 0 ≡ g m
  prefix_there m h =
      let many_is = length-map-range_with_len f 0 n in
      get_or-map-range_with_len (prefix_of ops items) 0 (suc (length items)) m m 0 (omega arith) (omega arith) ∙ prefix_is m h

same_ids : (xs : List ℕ) → map (λ x. x) xs ≡ xs
same_ids [] = refl
same_ids (x ∷ xs) = ap (λ l. x ∷ l) (same_ids xs)

module _ (c : Columns) (values : List (Option ℕ)) where
  pub span_small : (m : ℕ) → span c values m ≤ many c
  span_small m = by (is_bare c values (many c - 1 - m))
    where
      by : (b : Bool) → (if b then many c - number_in c.lows (many c - 1 - m) else 0) ≤ many c
      by true = omega arith
      by false = omega arith

  reach_there : (m : ℕ) → m ≤ many c → get_or (reaches_of c values) m 0 ≡ reach c values m
  reach_there m h = ap (λ l. get_or (prefixes greatest l) m 0) (same_ids (spans_of c values)) ∙ prefix_there greatest (span c values) (reach c values) (many c) refl (λ k l. refl) m h

  rank_small : (m : ℕ) → rank c values m ≤ m
  rank_small zero = omega arith
  rank_small (suc m) = by (stays c values m) (rank_small m)
    where
      by : (b : Bool) → rank c values m ≤ m → rank c values m + (if b then 1 else 0) ≤ suc m
      by true h = omega arith
      by false h = omega arith

  stays_there : (k : ℕ) → k < many c → stays_by c values (reaches_of c values) k ≡ stays c values k
  stays_there k l = ap (λ r. not (nat_lt (many c - 1 - k) r) && (not (gives_way c values k) && not (is_dropped c values k))) (reach_there (many c - 1 - k) (omega arith))

  pub marks_there : (marks : List Bool) → marks ≡ map (stays_by c values (reaches_of c values)) (range_with_len 0 (many c)) → marks ≡ map (stays c values) (range_with_len 0 (many c))
  marks_there marks e =
      e
      ∙ ext_get_or false (map (stays_by c values (reaches_of c values)) (range_with_len 0 (many c))) (map (stays c values) (range_with_len 0 (many c)))
      (length-map-range_with_len (stays_by c values (reaches_of c values)) 0 (many c) ∙ sym (length-map-range_with_len (stays c values) 0 (many c)))
      (λ k l.
      let n = length-map-range_with_len (stays_by c values (reaches_of c values)) 0 (many c) in
      let h : k < many c = omega arith in
      get_or-map-range_with_len (stays_by c values (reaches_of c values)) 0 (many c) k k false h (omega arith) ∙ stays_there k h ∙ sym (get_or-map-range_with_len (stays c values) 0 (many c) k k false h (omega arith)))

  filter_same : (f g : ℕ → Bool) (i n : ℕ) → ((k : ℕ) → i ≤ k → k < i + n → f k ≡ g k) → filter f (range_with_len i n) ≡ filter g (range_with_len i n)
  filter_same f g i zero h = refl
  filter_same f g i (suc n) h = λ j. if h i (omega arith) (omega arith) j then i ∷ filter_same f g (i + 1) n (λ k a b. h k (omega arith) (omega arith)) j else filter_same f g (i + 1) n (λ k a b. h k (omega arith) (omega arith)) j

  pub are_staying : many c ≤ 4294967295 → (marks : List Bool) (kept_rows ranks : List ℕ) → marks ≡ map (stays c values) (range_with_len 0 (many c)) → kept_rows ≡ filter (λ k. get_or marks k false) (range_with_len 0 (length marks))
      → ranks ≡ prefixes count (map bit marks) → AreStaying c values kept_rows marks ranks
  are_staying few marks kept_rows ranks e f g =
      let n = ap length e ∙ length-map-range_with_len (stays c values) 0 (many c) in
      record {
        kept_are =
            f
            ∙ ap (λ m. filter (λ k. get_or marks k false) (range_with_len 0 m)) n
            ∙ filter_same (λ k. get_or marks k false) (stays c values) 0 (many c) (λ k a b. ap (λ q. get_or q k false) e ∙ get_or-map-range_with_len (stays c values) 0 (many c) k k false (omega arith) (omega arith));
        marks_are = e;
        ranks_are = λ k l.
            ap (λ q. get_or q k 0) (g ∙ ap (λ q. prefixes count (map bit q)) e ∙ ap (prefixes count) (map-map bit (stays c values) (range_with_len 0 (many c))))
            ∙ prefix_there count (λ m. bit (stays c values m)) (rank c values) (many c) refl (λ m h. let s = rank_small (suc m) in let z : rank c values m + bit (stays c values m) < 2 ^ 62 = omega arith in omega arith) k l;
      }

  pub spans_accepted : many c ≤ 4294967295 → All (λ x. nat_lt x (2 ^ 62) ≡ true) (spans_of c values)
  spans_accepted few k d l =
      let n = length-map-range_with_len (span c values) 0 (many c) in
      let h : k < many c = omega arith in
      let s = span_small k in
      ap (λ x. nat_lt x (2 ^ 62)) (get_or-map-range_with_len (span c values) 0 (many c) k k d h (omega arith)) ∙ lt-ltb (span c values k) (2 ^ 62) (omega arith)
