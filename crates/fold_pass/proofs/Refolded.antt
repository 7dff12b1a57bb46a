-- The new columns and names, from the passes' lists.
use Rattle.std.proofs.Common.{◌≡◌, ℕ, zero, suc, ◌+◌, ◌<◌, ◌≤◌, inl, inr, min, Bool, true, false, List, [], ◌∷◌, length, map, get_or, Option, Some, None, refl, sym, ap, ◌∙◌, subst, arith}
use Rattle.std.specs.Prelude.{if◌then◌else◌, ◌&&◌, nat_eq, nat_le, nat_lt}
use Rattle.std.specs.List.{range_with_len, filter}
use Rattle.std.proofs.lemmas.Bool.{cases_lt}
use Rattle.std.proofs.lemmas.Bool.Decides.{nat_tests}
use Rattle.std.proofs.lemmas.List.{length-map, get_or_past}
use Rattle.std.proofs.lemmas.Simd.{map-map}
use Rattle.std.proofs.lemmas.List.FromFn.{get_or-map-range_with_len, length-map-range_with_len, length-range_with_len}
use Rattle.source_meaning.specs.declared.kinds.Kind.{Kind}
use Rattle.ast_rows.specs.NameRows.{NameRows, row_word, row_of_word}
use Rattle.ast_rows.specs.NodeRows.{low_at, lows_of, rows_from, run_before}
use Rattle.row_laws.specs.Climbed.{parent_at, parents_by, place_at}
use Rattle.row_laws.specs.Places.{next_low}
use Rattle.source_meaning.specs.Rows.{Row}
use Rattle.folded_rows.specs.Columns.{Columns, kept, kept_tokens, kind_by, kind_in, many, new_kinds, new_rows, new_number_of, number_in, rank, stays, value_in}
use Rattle.fold_pass.specs.Folded.{AreNewColumns, AreNewNames, rank_in, settled_by, word_by}
use Rattle.fold_pass.specs.Staying.{AreStaying}

-- ---- kept rows are rows
filter_same : {X : Type 0} (test : ℕ → Bool) (i n : ℕ) (f g : ℕ → X) → ((k : ℕ) → i ≤ k → k < i + n → f k ≡ g k) → map f (filter test (range_with_len i n)) ≡ map g (filter test (range_with_len i n))
filter_same test i zero f g h = refl
filter_same {X} test i (suc n) f g h = by (test i) (filter_same test (i + 1) n f g (λ k a b. h k (omega arith) (omega arith)))
  where
    by : (b : Bool) → map f (filter test (range_with_len (i + 1) n)) ≡ map g (filter test (range_with_len (i + 1) n))
        → map f (if b then i ∷ filter test (range_with_len (i + 1) n) else filter test (range_with_len (i + 1) n)) ≡ map g (if b then i ∷ filter test (range_with_len (i + 1) n) else filter test (range_with_len (i + 1) n))
    by true rest = λ j. h i (omega arith) (omega arith) j ∷ rest j
    by false rest = rest

filter_few : (test : ℕ → Bool) (xs : List ℕ) → length (filter test xs) ≤ length xs
filter_few test [] = omega arith
filter_few test (x ∷ xs) = by (test x) (filter_few test xs)
  where
    by : (b : Bool) → length (filter test xs) ≤ length xs → length (if b then x ∷ filter test xs else filter test xs) ≤ suc (length xs)
    by true h = omega arith
    by false h = omega arith

module _ (c : Columns) (values : List (Option ℕ)) where
  pub kept_few : length (kept c values) ≤ many c
  kept_few = let a = filter_few (stays c values) (range_with_len 0 (many c)) in let b = length-range_with_len 0 (many c) in omega arith

  pub rank_few : (m : ℕ) → rank c values m ≤ m
  rank_few zero = omega arith
  rank_few (suc m) = by (stays c values m) (rank_few m)
    where
      by : (b : Bool) → rank c values m ≤ m → rank c values m + (if b then 1 else 0) ≤ suc m
      by true h = omega arith
      by false h = omega arith

  module _ (kept_rows : List ℕ) (marks : List Bool) (ranks : List ℕ) (few : many c ≤ 4294967295) (are : AreStaying c values kept_rows marks ranks) where
    pub rank_is : (k : ℕ) → k ≤ many c → rank_in ranks k ≡ rank c values k
    rank_is k l = let e = are.ranks_are k l in let s = rank_few k in ap (λ n. min n 4294967295) e ∙ omega arith

    pub kept_rows_few : length kept_rows ≤ 4294967295
    kept_rows_few = let e = ap length are.kept_are in let f = kept_few in omega arith

    pub new_columns_are : ((k : ℕ) → number_in c.lows k ≤ k) → (kinds : List Kind) (words tokens lows : List ℕ) → kinds ≡ map (λ k. kind_by (kind_in c k) (value_in values k)) kept_rows → words ≡ map (λ k. number_in c.tokens k) kept_rows
        → tokens ≡ map (settled_by kinds words) (range_with_len 0 (length kinds)) → lows ≡ map (λ k. rank_in ranks (number_in c.lows k)) kept_rows → AreNewColumns c values kinds tokens lows
    new_columns_are low kinds words tokens lows e f g h =
        let kinds_is : kinds ≡ new_kinds c values = e ∙ ap (map (λ k. kind_by (kind_in c k) (value_in values k))) are.kept_are in
        let words_is : words ≡ kept_tokens c values = f ∙ ap (map (λ k. number_in c.tokens k)) are.kept_are in
        record {
          kinds_are = kinds_is;
          tokens_are =
              g
              ∙ (λ i. map (settled_by (kinds_is i) (words_is i)) (range_with_len 0 (length (kinds_is i))))
              ∙ ap (λ n. map (settled_by (new_kinds c values) (kept_tokens c values)) (range_with_len 0 n)) (length-map (kept c values) (λ k. kind_by (kind_in c k) (value_in values k)));
          lows_are =
              h
              ∙ ap (map (λ k. rank_in ranks (number_in c.lows k))) are.kept_are
              ∙ filter_same (stays c values) 0 (many c) (λ k. rank_in ranks (number_in c.lows k)) (λ k. rank c values (number_in c.lows k)) (λ k a b. let l = low k in rank_is (number_in c.lows k) (omega arith));
        }

    -- ---- names
    marks_at : (j : ℕ) → j < many c → get_or marks j false ≡ stays c values j
    marks_at j l = ap (λ q. get_or q j false) are.marks_are ∙ get_or-map-range_with_len (stays c values) 0 (many c) j j false l (omega arith)

    marks_past : (j : ℕ) → many c ≤ j → get_or marks j false ≡ false
    marks_past j l = let n = ap length are.marks_are ∙ length-map-range_with_len (stays c values) 0 (many c) in get_or_past marks j false (omega arith)

    word_is : (o : Option ℕ) → ((j : ℕ) → o ≡ Some j → j < many c) → row_of_word (word_by marks ranks (row_word o)) ≡ new_number_of c values o
    word_is None h = ap (λ b. row_of_word (if b then rank_in ranks 4294967295 else 4294967295)) (marks_past 4294967295 few)
    word_is (Some j) h = by (stays c values j) refl
      where
        by : (b : Bool) → stays c values j ≡ b → row_of_word (word_by marks ranks j) ≡ new_number_of c values (Some j)
        by true e =
            let l = h j refl in
            let s = rank_few j in
            let r = rank_is j (omega arith) in
            let n : nat_eq (rank c values j) 4294967295 ≡ false = grind (arith, nat_tests) in
            ap (λ b. row_of_word (if b then rank_in ranks j else 4294967295)) (marks_at j l ∙ e)
            ∙ ap row_of_word r
            ∙ ap (λ b. if b then None else Some (rank c values j)) n
            ∙ sym (ap (λ b. if b then Some (rank c values j) else None) e)
        by false e = let l = h j refl in ap (λ b. row_of_word (if b then rank_in ranks j else 4294967295)) (marks_at j l ∙ e) ∙ sym (ap (λ b. if b then Some (rank c values j) else None) e)

    word_there : (meant : List (Option ℕ)) (k : ℕ) → get_or (map row_word meant) k 4294967295 ≡ row_word (get_or meant k None)
    word_there [] k = refl
    word_there (o ∷ os) zero = refl
    word_there (o ∷ os) (suc k) = word_there os k

    pub new_names_are : (old : NameRows) (words new_numbers : List ℕ) (main : ℕ) → words ≡ map (λ k. word_by marks ranks (get_or (map row_word old.meant) k 4294967295)) kept_rows → new_numbers ≡ map (λ k. number_in old.numbers k) kept_rows
        → main ≡ rank_in ranks old.main → AreNewNames c values old (record { meant = map row_of_word words; numbers = new_numbers; main = main })
    new_names_are old words new_numbers main e f g = record {
      meant_are = λ rows.
          ap (map row_of_word) (e ∙ ap (map (λ k. word_by marks ranks (get_or (map row_word old.meant) k 4294967295))) are.kept_are)
          ∙ map-map row_of_word (λ k. word_by marks ranks (get_or (map row_word old.meant) k 4294967295)) (kept c values)
          ∙ filter_same (stays c values) 0 (many c) (λ k. row_of_word (word_by marks ranks (get_or (map row_word old.meant) k 4294967295))) (λ k. new_number_of c values (get_or old.meant k None))
          (λ k a b. ap (λ w. row_of_word (word_by marks ranks w)) (word_there old.meant k) ∙ word_is (get_or old.meant k None) (λ j q. rows k j (omega arith) q));
      numbers_are = f ∙ ap (map (λ k. number_in old.numbers k)) are.kept_are;
      main_is = λ l. g ∙ rank_is old.main l;
      meant_many = length-map words row_of_word ∙ ap length e ∙ length-map kept_rows (λ k. word_by marks ranks (get_or (map row_word old.meant) k 4294967295)) ∙ ap length are.kept_are;
      numbers_many = ap length f ∙ length-map kept_rows (λ k. number_in old.numbers k) ∙ ap length are.kept_are;
    }

  pub new_many : (kinds : List Kind) (tokens lows : List ℕ) → AreNewColumns c values kinds tokens lows → (length kinds ≡ length (kept c values)) × (length tokens ≡ length (kept c values)) × (length lows ≡ length (kept c values))
  new_many kinds tokens lows are = (
    ap length are.kinds_are ∙ length-map (kept c values) (λ k. kind_by (kind_in c k) (value_in values k)),
    ap length are.tokens_are ∙ length-map-range_with_len _ 0 (length (kept c values)),
    ap length are.lows_are ∙ length-map (kept c values) (λ k. rank c values (number_in c.lows k)),
  )

  pub new_rows_are : (kinds : List Kind) (tokens lows : List ℕ) (rows : List Row) → AreNewColumns c values kinds tokens lows
      → rows ≡ rows_from 0 kinds (parents_by lows) tokens (map (place_at (parents_by lows)) (range_with_len 0 (length lows))) → rows ≡ new_rows c values
  new_rows_are kinds tokens lows rows are e =
      e ∙ (λ i. rows_from 0 (are.kinds_are i) (parents_by (are.lows_are i)) (are.tokens_are i) (map (place_at (parents_by (are.lows_are i))) (range_with_len 0 (length (are.lows_are i)))))

-- ---- parents stand behind their rows
upward_by : (b : Bool) (k j : ℕ) → k ≤ j → k ≤ (if b then j else k)
upward_by true k j h = h
upward_by false k j h = omega arith

pub parents_up : (lows parents : List ℕ) → parents ≡ parents_by lows → (k : ℕ) → k < length parents → k ≤ get_or parents k 0
parents_up lows parents e k h =
    let n = ap length e ∙ length-map-range_with_len (parent_at lows) 0 (length lows) in
    let is : get_or parents k 0 ≡ parent_at lows k = ap (λ ps. get_or ps k 0) e ∙ get_or-map-range_with_len (parent_at lows) 0 (length lows) k k 0 (omega arith) (omega arith) in
    let j = next_low lows k (get_or lows k 0) in
    let up : k ≤ j = omega arith in
    subst (λ (m : ℕ). k ≤ m) (sym is) (upward_by (nat_lt j (length lows)) k j up)

pub parents_many : (lows parents : List ℕ) → parents ≡ parents_by lows → length parents ≡ length lows
parents_many lows parents e = ap length e ∙ length-map-range_with_len (parent_at lows) 0 (length lows)

pub places_many : (lows places : List ℕ) → places ≡ map (place_at (parents_by lows)) (range_with_len 0 (length lows)) → length places ≡ length lows
places_many lows places e = ap length e ∙ length-map-range_with_len (place_at (parents_by lows)) 0 (length lows)

-- ---- the first row of a subtree doesn't stand behind it
run_low : (parents : List ℕ) (i k : ℕ) → run_before parents i k ≤ k
run_low parents i zero = omega arith
run_low parents i (suc k) = by (nat_lt k (get_or parents k 0) && nat_le (get_or parents k 0) i) (run_low parents i k)
  where
    by : (b : Bool) → run_before parents i k ≤ k → (if b then run_before parents i k else suc k) ≤ suc k
    by true h = omega arith
    by false h = omega arith

pub lows_low : (parents : List ℕ) (k : ℕ) → number_in (lows_of parents) k ≤ k
lows_low parents k = elim (cases_lt k (length parents)) [
  | inl l ↦ subst (λ n. n ≤ k) (sym (get_or-map-range_with_len (low_at parents) 0 (length parents) k k 0 l (omega arith))) (run_low parents k k)
  | inr g ↦
      let n = length-map-range_with_len (low_at parents) 0 (length parents) in
      let z : number_in (lows_of parents) k ≡ 0 = get_or_past (lows_of parents) k 0 (omega arith) in
      omega arith
]
