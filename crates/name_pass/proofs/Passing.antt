-- What is found, one row or one stretch behind the other.
use Rattle.std.proofs.Common.{◌≡◌, ℕ, suc, ◌+◌, ◌-◌, ◌<◌, ◌≤◌, min, ◌⊎◌, inl, inr, Bool, true, false, List, [], ◌∷◌, ◌++◌, length, map, fold, get_or, set, replicate, None, refl, sym, ap, subst, ◌∙◌, take, drop, arith}
use Rattle.std.specs.List.{range_with_len}
use Rattle.std.proofs.lemmas.Bool.{cases_lt}
use Rattle.std.proofs.lemmas.List.{length-map, length-take-le, length-drop, get_or-take, get_or-drop, map-append, length-append, length-set, length-replicate, get_or-replicate, get_or-set_same, get_or-set_other, get_or_append_left, get_or-append_right}
use Rattle.std.proofs.lemmas.List.Sums.{fold-append}
use Rattle.std.proofs.lemmas.List.FromFn.{map-range_with_len_more}
use Rattle.source_meaning.specs.declared.kinds.Kind.{Kind}
use Rattle.source_meaning.specs.declared.kinds.Kind.TheVariants.{Program, Function, Param, Var, Call, Name}
use Rattle.source_meaning.specs.Rows.{Row}
use Rattle.phase_faults.specs.Keys.{no_key}
use Rattle.ast_rows.specs.TokenRows.{TokenRow}
use Rattle.ast_rows.specs.NodeRows.{token_word}
use Rattle.ast_rows.specs.NameRows.{row_word}
use Rattle.name_pass.specs.RowNames.{row, has_name, declares_variable, count_step, count_in, found_by, row_fault, fault_of}
use Rattle.name_pass.specs.Found.{AreNumbers, AreFound, found_word, words_from, least_from}
use Rattle.row_rules.specs.Visible.{no_row}
use Rattle.name_pass.proofs.Keyed.{image_at}
use Rattle.name_pass.proofs.Ranged.{ranges_join, made_from}

-- ---- the least of numbers
fold_low : (a : ℕ) (ys : List ℕ) → fold min a ys ≤ a
fold_low a [] = omega arith
fold_low a (y ∷ ys) = let h = fold_low (min a y) ys in omega arith

fold_top : (a top : ℕ) (ys : List ℕ) → a ≤ top → fold min a ys ≡ min a (fold min top ys)
fold_top a top [] h = omega arith
fold_top a top (y ∷ ys) h =
    let e = fold_top (min a y) top ys (omega arith) in
    let g = fold_top (min top y) top ys (omega arith) in
    omega arith

least_join : (top : ℕ) (f : ℕ → ℕ) (a b c : ℕ) → a ≤ b → b ≤ c
    → min (fold min top (map f (range_with_len a (b - a)))) (fold min top (map f (range_with_len b (c - b)))) ≡ fold min top (map f (range_with_len a (c - a)))
least_join top f a b c h l =
    let first = map f (range_with_len a (b - a)) in
    let last = map f (range_with_len b (c - b)) in
    sym (fold_top (fold min top first) top last (fold_low top first))
    ∙ sym (fold-append min top first last)
    ∙ ap (fold min top) (sym (map-append f (range_with_len a (b - a)) (range_with_len b (c - b))) ∙ ap (map f) (ranges_join a b c h l))

least_more : (top : ℕ) (f : ℕ → ℕ) (a n : ℕ) → min (fold min top (map f (range_with_len a n))) (f (a + n)) ≡ fold min top (map f (range_with_len a (n + 1)))
least_more top f a n = sym (fold-append min top (map f (range_with_len a n)) (f (a + n) ∷ [])) ∙ ap (fold min top) (sym (map-range_with_len_more f a n (a + n) refl))

min_top : (a top : ℕ) → a ≤ top → a ≡ min a top
min_top a top h = omega arith

-- ---- one cell more
cell_more : (xs : List ℕ) (n v k u : ℕ) → n < length xs → k < n + 1 → (k ≡ n → v ≡ u) → (k < n → get_or xs k 0 ≡ u) → get_or (set xs n v) k 0 ≡ u
cell_more xs n v k u inside l here before = go (cases_lt k n)
  where
    go : (k < n) ⊎ (n ≤ k) → get_or (set xs n v) k 0 ≡ u
    go (inl less) = get_or-set_other xs n k v 0 (λ e. absurd (omega arith)) ∙ before less
    go (inr more) =
        let e : k ≡ n = omega arith in
        ap (λ (j : ℕ). get_or (set xs n v) j 0) e ∙ get_or-set_same xs n v 0 inside ∙ here e

-- ---- rows without a name
nothing_found : (text : List ℕ) (tokens : List TokenRow) (rows : List Row) (k : ℕ) (kind : Kind) → has_name kind ≡ false → found_by text tokens rows k kind ≡ None
nothing_found text tokens rows k Name e = absurd (let c : true ≡ false = e in cc)
nothing_found text tokens rows k Call e = absurd (let c : true ≡ false = e in cc)
nothing_found text tokens rows k (Function ty) e = absurd (let c : true ≡ false = e in cc)
nothing_found text tokens rows k (Param ty) e = absurd (let c : true ≡ false = e in cc)
nothing_found text tokens rows k (Var ty) e = absurd (let c : true ≡ false = e in cc)
nothing_found text tokens rows k kind e = refl

no_fault : (text : List ℕ) (tokens : List TokenRow) (rows : List Row) (k at : ℕ) (kind : Kind) → has_name kind ≡ false → fault_of text tokens rows k at kind ≡ no_key
no_fault text tokens rows k at Name e = absurd (let c : true ≡ false = e in cc)
no_fault text tokens rows k at Call e = absurd (let c : true ≡ false = e in cc)
no_fault text tokens rows k at (Function ty) e = absurd (let c : true ≡ false = e in cc)
no_fault text tokens rows k at (Param ty) e = absurd (let c : true ≡ false = e in cc)
no_fault text tokens rows k at (Var ty) e = absurd (let c : true ≡ false = e in cc)
no_fault text tokens rows k at kind e = refl

same_count : (kind : Kind) (n : ℕ) → has_name kind ≡ false → count_step kind n ≡ n
same_count (Function ty) n e = absurd (let c : true ≡ false = e in cc)
same_count (Param ty) n e = absurd (let c : true ≡ false = e in cc)
same_count (Var ty) n e = absurd (let c : true ≡ false = e in cc)
same_count kind n e = refl

named_there : (kind : Kind) → declares_variable kind ≡ true → has_name kind ≡ true
named_there (Param ty) e = refl
named_there (Var ty) e = refl
named_there kind e = absurd (let c : false ≡ true = e in cc)

not_both : (b : Bool) → b ≡ true → b ≡ false → ⊥
not_both b e f = cc

-- the kinds of the rows of a stretch
pub kinds_many : (rows : List Row) (from to : ℕ) (all : List Kind) → all ≡ map (λ (r : Row). r.kind) rows → from ≤ to → to ≤ length rows → length (take (to - from) (drop from all)) ≡ to - from
kinds_many rows from to all whole le l =
    let many = ap length whole ∙ length-map rows (λ (r : Row). r.kind) in
    length-take-le (to - from) (drop from all) (omega (arith, many, length-drop from all))

pub kind_there : (rows : List Row) (from to k : ℕ) (all : List Kind) → all ≡ map (λ (r : Row). r.kind) rows → k < to - from → get_or (take (to - from) (drop from all)) k Program ≡ (row rows (from + k)).kind
kind_there rows from to k all whole l =
    get_or-take (to - from) (drop from all) k Program l
    ∙ get_or-drop from all k Program
    ∙ ap (λ (ks : List Kind). get_or ks (from + k) Program) whole
    ∙ image_at (λ (r : Row). r.kind) rows (from + k) no_row

module _ (text : List ℕ) (tokens : List TokenRow) (rows : List Row) where
  -- ---- the rows of a stretch, one by one
  -- what is found for the first n of the rows from one up to another, in columns for all of these
  pub record AreFoundBefore (from to n : ℕ) (words numbers : List ℕ) (least before : ℕ) : Type 0 where
    pub many_words : length words ≡ to - from
    pub many_numbers : length numbers ≡ to - from
    pub words_are : (k : ℕ) → k < n → get_or words k 0 ≡ found_word text tokens rows (from + k)
    pub words_left : (k : ℕ) → n ≤ k → k < to - from → get_or words k 0 ≡ 4294967295
    pub numbers_are : AreNumbers rows from n numbers
    pub least_is : least ≡ least_from text tokens rows from n
    pub count_is : before ≡ count_in rows (from + n)

  pub found_none : (from to before : ℕ) (words numbers : List ℕ) → words ≡ replicate (to - from) 4294967295 → numbers ≡ replicate (to - from) 0 → before ≡ count_in rows from → AreFoundBefore from to 0 words numbers no_key before
  found_none from to before words numbers words_is numbers_is is =
      record {
        many_words = ap length words_is ∙ length-replicate (to - from) 4294967295;
        many_numbers = ap length numbers_is ∙ length-replicate (to - from) 0;
        words_are = λ k l. absurd (omega arith);
        words_left = λ k ge l. ap (λ (ws : List ℕ). get_or ws k 0) words_is ∙ get_or-replicate (to - from) k 4294967295 0 l;
        numbers_are = λ k l. absurd (omega arith);
        least_is = refl;
        count_is = is ∙ ap (count_in rows) (let z : from ≡ from + 0 = omega arith in z);
      }

  module _ (from to n : ℕ) (words numbers : List ℕ) (least before : ℕ) (h : AreFoundBefore from to n words numbers least before) (l : n < to - from) where
    here : (k : ℕ) → k ≡ n → from + n ≡ from + k
    here k e = omega arith

    counted : (next : ℕ) → next ≡ count_step (row rows (from + n)).kind before → next ≡ count_in rows (from + (n + 1))
    counted next e = e ∙ ap (count_step (row rows (from + n)).kind) h.count_is ∙ ap (count_in rows) (let z : suc (from + n) ≡ from + (n + 1) = omega arith in z)

    pub found_named : (words' numbers' : List ℕ) (word fault least' next : ℕ) → words' ≡ set words n word → numbers' ≡ set numbers n before → least' ≡ min least fault
        → next ≡ count_step (row rows (from + n)).kind before → word ≡ found_word text tokens rows (from + n) → fault ≡ row_fault text tokens rows (from + n) → AreFoundBefore from to (n + 1) words' numbers' least' next
    found_named words' numbers' word fault least' next words_is numbers_is least_is next_is word_is fault_is =
        let many_words = h.many_words in
        let many_numbers = h.many_numbers in
        record {
          many_words = ap length words_is ∙ length-set words n word ∙ many_words;
          many_numbers = ap length numbers_is ∙ length-set numbers n before ∙ many_numbers;
          words_are = λ k less.
              ap (λ (ws : List ℕ). get_or ws k 0) words_is
              ∙ cell_more words n word k (found_word text tokens rows (from + k)) (omega arith) less (λ e. word_is ∙ ap (found_word text tokens rows) (here k e)) (λ lt. h.words_are k lt);
          words_left = λ k ge lt. ap (λ (ws : List ℕ). get_or ws k 0) words_is ∙ get_or-set_other words n k word 0 (λ e. absurd (omega arith)) ∙ h.words_left k (omega arith) lt;
          numbers_are = λ k less declared.
              ap (λ (ns : List ℕ). get_or ns k 0) numbers_is
              ∙ cell_more numbers n before k (count_in rows (from + k)) (omega arith) less (λ e. h.count_is ∙ ap (count_in rows) (here k e)) (λ lt. h.numbers_are k lt declared);
          least_is = least_is ∙ (λ j. min (h.least_is j) (fault_is j)) ∙ least_more no_key (row_fault text tokens rows) from n;
          count_is = counted next next_is;
        }

    pub found_nameless : (words' numbers' : List ℕ) (least' next : ℕ) → words' ≡ words → numbers' ≡ numbers → least' ≡ least → next ≡ before
        → has_name (row rows (from + n)).kind ≡ false → AreFoundBefore from to (n + 1) words' numbers' least' next
    found_nameless words' numbers' least' next words_is numbers_is least_is next_is none =
        record {
          many_words = ap length words_is ∙ h.many_words;
          many_numbers = ap length numbers_is ∙ h.many_numbers;
          words_are = λ k less. ap (λ (ws : List ℕ). get_or ws k 0) words_is ∙ word_at k less (cases_lt k n);
          words_left = λ k ge lt. ap (λ (ws : List ℕ). get_or ws k 0) words_is ∙ h.words_left k (omega arith) lt;
          numbers_are = λ k less declared. ap (λ (ns : List ℕ). get_or ns k 0) numbers_is ∙ number_at k less declared (cases_lt k n);
          least_is =
              least_is
              ∙ h.least_is
              ∙ min_top (least_from text tokens rows from n) no_key (fold_low no_key (map (row_fault text tokens rows) (range_with_len from n)))
              ∙ ap (min (least_from text tokens rows from n)) (sym (no_fault text tokens rows (from + n) (token_word (row rows (from + n)).token) (row rows (from + n)).kind none))
              ∙ least_more no_key (row_fault text tokens rows) from n;
          count_is = counted next (next_is ∙ sym (same_count (row rows (from + n)).kind before none));
        }
      where
        word_at : (k : ℕ) → k < n + 1 → (k < n) ⊎ (n ≤ k) → get_or words k 0 ≡ found_word text tokens rows (from + k)
        word_at k less (inl lt) = h.words_are k lt
        word_at k less (inr ge) =
            let e : k ≡ n = omega arith in
            h.words_left k ge (omega arith)
            ∙ sym (ap row_word (nothing_found text tokens rows (from + n) (row rows (from + n)).kind none))
            ∙ ap (found_word text tokens rows) (here k e)

        number_at : (k : ℕ) → k < n + 1 → declares_variable (row rows (from + k)).kind ≡ true → (k < n) ⊎ (n ≤ k) → get_or numbers k 0 ≡ count_in rows (from + k)
        number_at k less declared (inl lt) = h.numbers_are k lt declared
        number_at k less declared (inr ge) =
            let e : k ≡ n = omega arith in
            let kind_is = ap (λ (j : ℕ). (row rows j).kind) (here k e) in
            absurd (not_both (has_name (row rows (from + n)).kind) (named_there (row rows (from + n)).kind (ap declares_variable kind_is ∙ declared)) none)

  pub found_whole : (from to n : ℕ) (words numbers : List ℕ) (least before : ℕ) → n ≡ to - from → AreFoundBefore from to n words numbers least before → AreFound text tokens rows from to words numbers least
  found_whole from to n words numbers least before all h =
      let many = h.many_words in
      record {
        words_are = made_from (found_word text tokens rows) 0 from words (λ k l. h.words_are k (omega arith)) ∙ ap (words_from text tokens rows from) many;
        many = h.many_numbers;
        numbers_are = subst (λ (m : ℕ). AreNumbers rows from m numbers) all h.numbers_are;
        least_is = h.least_is ∙ ap (least_from text tokens rows from) all;
      }

  -- ---- the stretches, one by one
  pub found_next : (a b c : ℕ) (words words' all_words numbers numbers' all_numbers : List ℕ) (least least' all_least : ℕ) → a ≤ b → b ≤ c
      → AreFound text tokens rows a b words numbers least → AreFound text tokens rows b c words' numbers' least'
      → all_words ≡ words ++ words' → all_numbers ≡ numbers ++ numbers' → all_least ≡ min least least' → AreFound text tokens rows a c all_words all_numbers all_least
  found_next a b c words words' all_words numbers numbers' all_numbers least least' all_least h l f g w n m =
      let f_many = f.many in
      let g_many = g.many in
      let word = found_word text tokens rows in
      record {
        words_are =
            w
            ∙ (λ i. f.words_are i ++ g.words_are i)
            ∙ sym (map-append word (range_with_len a (b - a)) (range_with_len b (c - b)))
            ∙ ap (map word) (ranges_join a b c h l);
        many = ap length n ∙ length-append numbers numbers' ∙ omega arith;
        numbers_are = λ k lt declared. ap (λ (ns : List ℕ). get_or ns k 0) n ∙ number_at k lt declared (cases_lt k (b - a));
        least_is = m ∙ (λ i. min (f.least_is i) (g.least_is i)) ∙ least_join no_key (row_fault text tokens rows) a b c h l;
      }
    where
      number_at : (k : ℕ) → k < c - a → declares_variable (row rows (a + k)).kind ≡ true → (k < b - a) ⊎ (b - a ≤ k) → get_or (numbers ++ numbers') k 0 ≡ count_in rows (a + k)
      number_at k lt declared (inl less) = let many = f.many in get_or_append_left numbers numbers' 0 k (omega arith) ∙ f.numbers_are k less declared
      number_at k lt declared (inr ge) =
          let e : a + k ≡ b + (k - (b - a)) = omega arith in
          get_or-append_right numbers numbers' (b - a) k 0 f.many ge
          ∙ g.numbers_are (k - (b - a)) (omega arith) (ap (λ (j : ℕ). declares_variable (row rows j).kind) (sym e) ∙ declared)
          ∙ ap (count_in rows) (sym e)
