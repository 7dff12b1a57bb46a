-- Look-ups in the rows by symbol.
use Rattle.std.proofs.Common.{◌≡◌, ℕ, zero, suc, ◌+◌, ◌<◌, ◌≤◌, List, [], ◌∷◌, ◌++◌, length, Bool, true, false, not, ◌&&◌, ◌||◌, eqb-true, eq-eqb, sym, refl, ap, ◌∙◌, subst, ⊎_elim, Some, arith}
use Rattle.std.specs.Prelude.{◌==◌, slice_index_or, slice_get}
use Rattle.std.proofs.lemmas.Bool.{ne_eqb}
use Rattle.std.specs.List.{list_all}
use Rattle.grammar_file.specs.declared.symbols.Symbol.{Symbol}
use Rattle.grammar_file.specs.declared.symbols.Symbol.TheVariants.{Terminal, Nonterminal}
use Rattle.grammar_file.specs.Grammar.{Grammar, end_mark}
use Rattle.llp_tables.specs.SymbolRows.{SymbolRows, row_of, closes_all, closed_under, may_be_empty as empty_by, first_of as first_by}
use Rattle.llp_tables.specs.Certificate.{Certificate, Row, has, within, row_when, same_symbol, same_symbols, says, is_function, all_behind, may_be_empty, first_of, follow_of, end_of, row_at, beginnings, all_empty, marks_symbol, members_at, at_end, part_from, after_in, after_all, right_sides}
use Rattle.llp_tables.proofs.Translation.{numbers_set, kept, end_rows, terminal_rows, symbol_rows}
use Rattle.llp_tables.proofs.RuleTests.{both, and_both, implied, one_of, first_holds, second_holds, all_map}
use Rattle.llp_tables.proofs.Closes.{carried, all_at, closes}

-- ---- marks

low : (i a : ℕ) (bs : List Bool) → a < i → has (numbers_set i bs) a ≡ false
low i a [] h = refl
low i a (true ∷ bs) h = ap (λ b. b || has (numbers_set (i + 1) bs) a) (ne_eqb i a (λ e. omega arith)) ∙ low (i + 1) a bs (omega arith)
low i a (false ∷ bs) h = low (i + 1) a bs (omega arith)

marked : (i k : ℕ) (bs : List Bool) → has (numbers_set i bs) (i + k) ≡ slice_index_or bs k false
marked i zero [] = refl
marked i (suc k) [] = refl
marked i zero (true ∷ bs) = first_holds (i == i + 0) (has (numbers_set (i + 1) bs) (i + 0)) (eq-eqb i (i + 0) (omega arith))
marked i (suc k) (true ∷ bs) =
    let e : i + 1 + k ≡ i + suc k = omega arith in
    ap (λ b. b || has (numbers_set (i + 1) bs) (i + suc k)) (ne_eqb i (i + suc k) (λ q. omega arith)) ∙ subst (λ n. has (numbers_set (i + 1) bs) n ≡ slice_index_or bs k false) e (marked (i + 1) k bs)
marked i zero (false ∷ bs) = low (i + 1) (i + 0) bs (omega arith)
marked i (suc k) (false ∷ bs) = let e : i + 1 + k ≡ i + suc k = omega arith in subst (λ n. has (numbers_set (i + 1) bs) n ≡ slice_index_or bs k false) e (marked (i + 1) k bs)

-- ---- rows

says_front : (xs ys : Row) (b : ℕ) (m : List Symbol) → says xs b m ≡ true → says (xs ++ ys) b m ≡ true
says_front [] ys b m h = absurd (cc)
says_front (e ∷ es) ys b m h = ⊎_elim (λ q. first_holds (e.0 == b && same_symbols e.1 m) (says (es ++ ys) b m) q) (λ q. second_holds (e.0 == b && same_symbols e.1 m) (says (es ++ ys) b m) (says_front es ys b m q)) (one_of (e.0 == b && same_symbols e.1 m) (says es b m) h)

says_back : (xs ys : Row) (b : ℕ) (m : List Symbol) → says ys b m ≡ true → says (xs ++ ys) b m ≡ true
says_back [] ys b m h = h
says_back (e ∷ es) ys b m h = second_holds (e.0 == b && same_symbols e.1 m) (says (es ++ ys) b m) (says_back es ys b m h)

symbol_self : (x : Symbol) → same_symbol x x ≡ true
symbol_self (Terminal a) = eq-eqb a a refl
symbol_self (Nonterminal a) = eq-eqb a a refl

symbols_self : (xs : List Symbol) → same_symbols xs xs ≡ true
symbols_self [] = refl
symbols_self (x ∷ xs) = and_both (same_symbol x x) (same_symbols xs xs) (symbol_self x) (symbols_self xs)

-- a row has its own entries
self_says : (row : Row) → list_all (λ e. says row e.0 e.1) row ≡ true
self_says [] = refl
self_says (e ∷ es) =
    and_both (says (e ∷ es) e.0 e.1) (list_all (λ q. says (e ∷ es) q.0 q.1) es)
    (first_holds (e.0 == e.0 && same_symbols e.1 e.1) (says es e.0 e.1) (and_both (e.0 == e.0) (same_symbols e.1 e.1) (eq-eqb e.0 e.0 refl) (symbols_self e.1)))
    (all_map (λ q. says es q.0 q.1) (λ q. says (e ∷ es) q.0 q.1) es (λ q h. second_holds (e.0 == q.0 && same_symbols e.1 q.1) (says es q.0 q.1) h) (self_says es))

kept_all : (A : ℕ × List Symbol → Bool) (xs : List ℕ) (row : Row) → list_all A row ≡ true → list_all (λ e. A e && has xs e.0) (kept xs row) ≡ true
kept_all A xs [] h = refl
kept_all A xs (e ∷ es) h = let b = both (A e) (list_all A es) h in go (has xs e.0) refl b.0 (kept_all A xs es b.1)
  where
    go : (b : Bool) → has xs e.0 ≡ b → A e ≡ true → list_all (λ q. A q && has xs q.0) (kept xs es) ≡ true → list_all (λ q. A q && has xs q.0) (row_when b (e ∷ []) ++ kept xs es) ≡ true
    go true q a rest = and_both (A e && has xs e.0) (list_all (λ q. A q && has xs q.0) (kept xs es)) (and_both (A e) (has xs e.0) a q) rest
    go false q a rest = rest

pub kept_says : (xs : List ℕ) (row : Row) (b : ℕ) (m : List Symbol) → has xs b ≡ true → says row b m ≡ true → says (kept xs row) b m ≡ true
kept_says xs [] b m h k = k
kept_says xs (e ∷ es) b m h k = ⊎_elim here (λ t. there (kept_says xs es b m h t)) (one_of (e.0 == b && same_symbols e.1 m) (says es b m) k)
  where
    here : (e.0 == b && same_symbols e.1 m) ≡ true → says (row_when (has xs e.0) (e ∷ []) ++ kept xs es) b m ≡ true
    here t =
        let s = both (e.0 == b) (same_symbols e.1 m) t in
        let p : e.0 ≡ b = eqb-true e.0 b s.0 in
        let q : true ≡ has xs e.0 = sym (subst (λ n. has xs n ≡ true) (sym p) h) in
        subst (λ v. says (row_when v (e ∷ []) ++ kept xs es) b m ≡ true) q (first_holds (e.0 == b && same_symbols e.1 m) (says (kept xs es) b m) t)

    there : says (kept xs es) b m ≡ true → says (row_when (has xs e.0) (e ∷ []) ++ kept xs es) b m ≡ true
    there t = says_back (row_when (has xs e.0) (e ∷ [])) (kept xs es) b m t

end_row_at : (c : Certificate) (a k : ℕ) (rows : List Row) → slice_index_or (end_rows c a rows) k [] ≡ kept (follow_of c (a + k)) (slice_index_or rows k [])
end_row_at c a zero [] = refl
end_row_at c a (suc k) [] = refl
end_row_at c a zero (row ∷ rows) = let e : a ≡ a + 0 = omega arith in ap (λ n. kept (follow_of c n) row) e
end_row_at c a (suc k) (row ∷ rows) = let e : a + 1 + k ≡ a + suc k = omega arith in end_row_at c (a + 1) k rows ∙ ap (λ n. kept (follow_of c n) (slice_index_or rows k [])) e

terminal_row_at : (c : Certificate) (g : Grammar) (a k n : ℕ) → k < n → slice_index_or (terminal_rows c g a n) k [] ≡ after_all c 0 (a + k) (right_sides g)
terminal_row_at c g a k zero h = absurd (omega arith)
terminal_row_at c g a zero (suc n) h = let e : a ≡ a + 0 = omega arith in ap (λ m. after_all c 0 m (right_sides g)) e
terminal_row_at c g a (suc k) (suc n) h = let e : a + 1 + k ≡ a + suc k = omega arith in terminal_row_at c g (a + 1) k n (omega arith) ∙ ap (λ m. after_all c 0 m (right_sides g)) e

-- ---- what stands right after a terminal

after_in_says : (c : Certificate) (i k t : ℕ) (before after : List Symbol) (b : ℕ) (m : List Symbol) → says (row_at c i (k + length before + 1)) b m ≡ true → says (after_in c i k t (before ++ Terminal t ∷ after)) b m ≡ true
after_in_says c i k t [] after b m h =
    let e : k + 0 + 1 ≡ k + 1 = omega arith in
    says_front (row_when (t == t) (row_at c i (k + 1))) (after_in c i (k + 1) t after) b m
    (subst (λ v. says (row_when v (row_at c i (k + 1))) b m ≡ true) (sym (eq-eqb t t refl)) (subst (λ n. says (row_at c i n) b m ≡ true) e h))
after_in_says c i k t (Terminal u ∷ before) after b m h =
    let e : k + length (Terminal u ∷ before) + 1 ≡ k + 1 + length before + 1 = omega arith in
    says_back (row_when (t == u) (row_at c i (k + 1))) (after_in c i (k + 1) t (before ++ Terminal t ∷ after)) b m (after_in_says c i (k + 1) t before after b m (subst (λ n. says (row_at c i n) b m ≡ true) e h))
after_in_says c i k t (Nonterminal u ∷ before) after b m h =
    let e : k + length (Nonterminal u ∷ before) + 1 ≡ k + 1 + length before + 1 = omega arith in
    after_in_says c i (k + 1) t before after b m (subst (λ n. says (row_at c i n) b m ≡ true) e h)

after_all_says : (c : Certificate) (j n t : ℕ) (rights : List (List Symbol)) (right before after : List Symbol) (b : ℕ) (m : List Symbol) → slice_get rights n ≡ Some right → right ≡ before ++ Terminal t ∷ after
    → says (row_at c (j + n) (length before + 1)) b m ≡ true → says (after_all c j t rights) b m ≡ true
after_all_says c j n t [] right before after b m is parts h = absurd (cc)
after_all_says c j zero t (r ∷ rs) right before after b m is parts h =
    let e : r ≡ right = cc in
    let z : j + 0 ≡ j = omega arith in
    let w : length before + 1 ≡ 0 + length before + 1 = omega arith in
    says_front (after_in c j 0 t r) (after_all c (j + 1) t rs) b m
    (subst (λ q. says (after_in c j 0 t q) b m ≡ true) (sym (e ∙ parts))
    (after_in_says c j 0 t before after b m (subst (λ n. says (row_at c j n) b m ≡ true) w (subst (λ q. says (row_at c q (length before + 1)) b m ≡ true) z h))))
after_all_says c j (suc n) t (r ∷ rs) right before after b m is parts h =
    let z : j + suc n ≡ j + 1 + n = omega arith in
    says_back (after_in c j 0 t r) (after_all c (j + 1) t rs) b m (after_all_says c (j + 1) n t rs right before after b m is parts (subst (λ q. says (row_at c q (length before + 1)) b m ≡ true) z h))

-- ---- the premises of `closes`

module _ (c : Certificate) (g : Grammar) where
  abbrev o : SymbolRows
  o = symbol_rows c g

  pub empties : (x : Symbol) → empty_by o x ≡ may_be_empty c x
  empties (Terminal a) = refl
  empties (Nonterminal a) = let z : 0 + a ≡ a = omega arith in subst (λ n. has (numbers_set 0 c.empty) n ≡ slice_index_or c.empty a false) z (marked 0 a c.empty)

  pub firsts : (x : Symbol) → first_by o x ≡ first_of c x
  firsts (Terminal a) = refl
  firsts (Nonterminal a) = refl

  pub end_row_is : (a : ℕ) → row_of o (Nonterminal a) ≡ kept (follow_of c a) (end_of c a)
  end_row_is a = let z : 0 + a ≡ a = omega arith in subst (λ n. slice_index_or (end_rows c 0 c.ends) a [] ≡ kept (follow_of c n) (end_of c a)) z (end_row_at c 0 a c.ends)

  pub ends : (l : ℕ) → list_all (λ e. says (end_of c l) e.0 e.1 && has (follow_of c l) e.0) (row_of o (Nonterminal l)) ≡ true
  ends l = subst (λ row. list_all (λ e. says (end_of c l) e.0 e.1 && has (follow_of c l) e.0) row ≡ true) (sym (end_row_is l)) (kept_all (λ e. says (end_of c l) e.0 e.1) (follow_of c l) (end_of c l) (self_says (end_of c l)))

  -- right sides whose terminals are the grammar's
  abbrev pub InGrammar : Symbol → Type 0
  InGrammar (Terminal a) = a ≤ end_mark g
  InGrammar (Nonterminal a) = Unit {0}

  abbrev pub AllIn : List Symbol → Type 0
  AllIn [] = Unit {0}
  AllIn (x ∷ xs) = InGrammar x × AllIn xs

  pub row_after : (i : ℕ) (right before after : List Symbol) (t b : ℕ) (m : List Symbol) → slice_get (right_sides g) i ≡ Some right → right ≡ before ++ Terminal t ∷ after → t ≤ end_mark g
      → says (row_at c i (length before + 1)) b m ≡ true → says (row_of o (Terminal t)) b m ≡ true
  row_after i right before after t b m is parts inside h =
      let z : 0 + t ≡ t = omega arith in
      let e : slice_index_or (terminal_rows c g 0 (end_mark g + 1)) t [] ≡ after_all c 0 t (right_sides g) = terminal_row_at c g 0 t (end_mark g + 1) (omega arith) ∙ ap (λ n. after_all c 0 n (right_sides g)) z in
      let j : 0 + i ≡ i = omega arith in
      subst (λ row. says row b m ≡ true) (sym e) (after_all_says c 0 i t (right_sides g) right before after b m is parts (subst (λ q. says (row_at c q (length before + 1)) b m ≡ true) (sym j) h))

  append_more : (before : List Symbol) (x : Symbol) (after : List Symbol) → (before ++ x ∷ []) ++ after ≡ before ++ x ∷ after
  append_more [] x after = refl
  append_more (y ∷ before) x after = λ i. y ∷ append_more before x after i

  length_more : (before : List Symbol) (x : Symbol) → length (before ++ x ∷ []) ≡ length before + 1
  length_more [] x = refl
  length_more (y ∷ before) x = omega (arith, length_more before x)

  -- a production's right side is closed under by the rows of symbols
  pub closed : (i left : ℕ) (right before after : List Symbol) → slice_get (right_sides g) i ≡ Some right → right ≡ before ++ after → AllIn after
      → part_from c i (length before) (left ∷ []) after ≡ true → closed_under o left after ≡ true
  closed i left right before [] is parts inside h = refl
  closed i left right before (x ∷ after) is parts inside h =
      let p = both (marks_symbol c (left ∷ []) x after) (members_at c (row_at c i (length before)) x (row_at c i (length before + 1)) && part_from c i (length before + 1) (left ∷ []) after) h in
      let q = both (members_at c (row_at c i (length before)) x (row_at c i (length before + 1))) (part_from c i (length before + 1) (left ∷ []) after) p.1 in
      and_both (closes_all o (row_of o x) left [] after) (closed_under o left after) (here x parts inside.0 p.0 q.0 q.1)
      (closed i left right (before ++ x ∷ []) after is (parts ∙ sym (append_more before x after)) inside.1 (subst (λ n. part_from c i n (left ∷ []) after ≡ true) (sym (length_more before x)) q.1))
    where
      here : (s : Symbol) → right ≡ before ++ s ∷ after → InGrammar s → marks_symbol c (left ∷ []) s after ≡ true → members_at c (row_at c i (length before)) s (row_at c i (length before + 1)) ≡ true
          → part_from c i (length before + 1) (left ∷ []) after ≡ true → closes_all o (row_of o s) left [] after ≡ true
      here (Terminal t) parts' in_grammar marks members rest =
          closes c o empties firsts ends i left (λ b. Unit {0}) (row_of o (Terminal t)) (length before + 1) [] after rest (λ b k. tt) (λ all b k. tt)
          (λ b m ok k. row_after i right before after t b m is parts' in_grammar k)
      here (Nonterminal a) parts' in_grammar marks members rest =
          let w = both (within (beginnings c after) (follow_of c a)) (not (all_empty c after) || list_all (λ l. within (follow_of c l) (follow_of c a)) (left ∷ [])) marks in
          let row = row_at c i (length before) in
          let next = row_at c i (length before + 1) in
          let m1 = both (is_function row) (list_all (λ b. says row b (Nonterminal a ∷ [])) (first_of c (Nonterminal a)) && ((not (may_be_empty c (Nonterminal a)) || all_behind (Nonterminal a) next row) && at_end c (Nonterminal a) next)) members in
          let m2 = both (list_all (λ b. says row b (Nonterminal a ∷ [])) (first_of c (Nonterminal a))) ((not (may_be_empty c (Nonterminal a)) || all_behind (Nonterminal a) next row) && at_end c (Nonterminal a) next) m1.1 in
          let m3 = both (not (may_be_empty c (Nonterminal a)) || all_behind (Nonterminal a) next row) (at_end c (Nonterminal a) next) m2.1 in
          closes c o empties firsts ends i left (λ b. has (follow_of c a) b ≡ true) (row_of o (Nonterminal a)) (length before + 1) [] after rest
          (λ b k. all_at (λ n. has (follow_of c a) n) (beginnings c after) b w.0 k)
          (λ all b k. let l = both (within (follow_of c left) (follow_of c a)) (list_all (λ l. within (follow_of c l) (follow_of c a)) []) (implied (all_empty c after) (list_all (λ l. within (follow_of c l) (follow_of c a)) (left ∷ [])) w.1 all) in all_at (λ n. has (follow_of c a) n) (follow_of c left) b l.0 k)
          (λ b m ok k. subst (λ r. says r b m ≡ true) (sym (end_row_is a)) (kept_says (follow_of c a) (end_of c a) b m ok (carried next (end_of c a) (λ s. s) b m m3.1 k)))
