-- What is closed behind a place, by the members of places, is closed by rows of symbols.
use Rattle.std.proofs.Common.{◌≡◌, ℕ, ◌+◌, List, [], ◌∷◌, ◌++◌, Bool, true, not, ◌&&◌, ◌||◌, eqb-true, eq-eqb, sym, refl, subst, ⊎_elim}
use Rattle.std.specs.Prelude.{◌==◌}
use Rattle.std.specs.List.{list_all}
use Rattle.grammar_file.specs.declared.symbols.Symbol.{Symbol}
use Rattle.grammar_file.specs.declared.symbols.Symbol.TheVariants.{Nonterminal}
use Rattle.llp_tables.specs.SymbolRows.{SymbolRows, row_of, closes_all, may_be_empty as empty_by, first_of as first_by}
use Rattle.llp_tables.specs.Certificate.{Certificate, Row, has, same_symbols, says, is_function, all_behind, all_in, when, may_be_empty, first_of, follow_of, end_of, row_at, beginnings, all_empty, marks_symbol, members_at, at_end, part_from}
use Rattle.llp_tables.proofs.RuleTests.{both, and_both, implied, unless, one_of, first_holds, second_holds, some_passes, all_map, same_symbols_is}

-- an entry of a row, carried to where all entries of the row are, as f of them
pub carried : (row there : Row) (f : List Symbol → List Symbol) (b : ℕ) (m : List Symbol) → list_all (λ e. says there e.0 (f e.1)) row ≡ true → says row b m ≡ true → says there b (f m) ≡ true
carried row there f b m all is =
    let s = some_passes (λ e. says there e.0 (f e.1)) (λ e. e.0 == b && same_symbols e.1 m) row all is in
    let t = both (s.0.0 == b) (same_symbols s.0.1 m) s.2 in
    let p : s.0.0 ≡ b = eqb-true s.0.0 b t.0 in
    let q : s.0.1 ≡ m = same_symbols_is s.0.1 m t.1 in
    subst (λ n. says there n (f m) ≡ true) p (subst (λ x. says there s.0.0 (f x) ≡ true) q s.1)

pub append_one : (above : List Symbol) (x : Symbol) (m : List Symbol) → (above ++ x ∷ []) ++ m ≡ above ++ x ∷ m
append_one [] x m = refl
append_one (y ∷ above) x m = λ i. y ∷ append_one above x m i

pub has_front : (xs ys : List ℕ) (b : ℕ) → has xs b ≡ true → has (xs ++ ys) b ≡ true
has_front [] ys b h = absurd (cc)
has_front (x ∷ xs) ys b h = ⊎_elim (λ e. first_holds (x == b) (has (xs ++ ys) b) e) (λ e. second_holds (x == b) (has (xs ++ ys) b) (has_front xs ys b e)) (one_of (x == b) (has xs b) h)

pub has_back : (xs ys : List ℕ) (b : ℕ) → has ys b ≡ true → has (xs ++ ys) b ≡ true
has_back [] ys b h = h
has_back (x ∷ xs) ys b h = second_holds (x == b) (has (xs ++ ys) b) (has_back xs ys b h)

-- each number of a list is one of the list
pub all_has : (P : ℕ → Bool) (xs : List ℕ) → ((b : ℕ) → has xs b ≡ true → P b ≡ true) → list_all P xs ≡ true
all_has P [] f = refl
all_has P (x ∷ xs) f = and_both (P x) (list_all P xs) (f x (first_holds (x == x) (has xs x) (eq-eqb x x refl))) (all_has P xs (λ b h. f b (second_holds (x == b) (has xs b) h)))

pub all_at : (P : ℕ → Bool) (xs : List ℕ) (b : ℕ) → list_all P xs ≡ true → has xs b ≡ true → P b ≡ true
all_at P xs b h k = let s = some_passes P (λ y. y == b) xs h k in let e : s.0 ≡ b = eqb-true s.0 b s.2 in subst (λ n. P n ≡ true) e s.1

module _ (c : Certificate) (o : SymbolRows) (empties : (x : Symbol) → empty_by o x ≡ may_be_empty c x) (firsts : (x : Symbol) → first_by o x ≡ first_of c x)
    (ends : (l : ℕ) → list_all (λ e. says (end_of c l) e.0 e.1 && has (follow_of c l) e.0) (row_of o (Nonterminal l)) ≡ true) where
  -- The rest of production i's right side from place k on: where the row R has all members of that place for the terminals with Q,
  -- behind what was passed, it has all that is closed there.
  pub closes : (i left : ℕ) (Q : ℕ → Type 0) (R : Row) (k : ℕ) (above after : List Symbol) → part_from c i k (left ∷ []) after ≡ true
      → ((b : ℕ) → has (beginnings c after) b ≡ true → Q b) → (all_empty c after ≡ true → (b : ℕ) → has (follow_of c left) b ≡ true → Q b)
      → ((b : ℕ) (m : List Symbol) → Q b → says (row_at c i k) b m ≡ true → says R b (above ++ m) ≡ true)
      → closes_all o R left above after ≡ true
  closes i left Q R k above [] h first last carry =
      let p = both (is_function (row_at c i k)) (list_all (λ l. all_in (end_of c l) (row_at c i k)) (left ∷ [])) h in
      let q = both (all_in (end_of c left) (row_at c i k)) (list_all (λ l. all_in (end_of c l) (row_at c i k)) []) p.1 in
      all_map (λ e. says (end_of c left) e.0 e.1 && has (follow_of c left) e.0) (λ e. says R e.0 (above ++ e.1)) (row_of o (Nonterminal left))
      (λ e t. let s = both (says (end_of c left) e.0 e.1) (has (follow_of c left) e.0) t in
      carry e.0 e.1 (last refl e.0 s.1) (carried (end_of c left) (row_at c i k) (λ m. m) e.0 e.1 q.0 s.0)) (ends left)
  closes i left Q R k above (x ∷ after) h first last carry =
      let p = both (marks_symbol c (left ∷ []) x after) (members_at c (row_at c i k) x (row_at c i (k + 1)) && part_from c i (k + 1) (left ∷ []) after) h in
      let q = both (members_at c (row_at c i k) x (row_at c i (k + 1))) (part_from c i (k + 1) (left ∷ []) after) p.1 in
      let row = row_at c i k in
      let next = row_at c i (k + 1) in
      let m = both (is_function row) (list_all (λ b. says row b (x ∷ [])) (first_of c x) && ((not (may_be_empty c x) || all_behind x next row) && at_end c x next)) q.0 in
      let f = both (list_all (λ b. says row b (x ∷ [])) (first_of c x)) ((not (may_be_empty c x) || all_behind x next row) && at_end c x next) m.1 in
      let g = both (not (may_be_empty c x) || all_behind x next row) (at_end c x next) f.1 in
      let here : list_all (λ b. says R b (above ++ x ∷ [])) (first_of c x) ≡ true =
      all_has (λ b. says R b (above ++ x ∷ [])) (first_of c x) (λ b is. carry b (x ∷ []) (first b (has_front (first_of c x) (when (may_be_empty c x) (beginnings c after)) b is)) (all_at (λ b. says row b (x ∷ [])) (first_of c x) b f.0 is)) in
      and_both (list_all (λ b. says R b (above ++ x ∷ [])) (first_by o x)) (not (empty_by o x) || closes_all o R left (above ++ x ∷ []) after)
      (subst (λ xs. list_all (λ b. says R b (above ++ x ∷ [])) xs ≡ true) (sym (firsts x)) here)
      (subst (λ e. (not e || closes_all o R left (above ++ x ∷ []) after) ≡ true) (sym (empties x))
      (unless (may_be_empty c x) (closes_all o R left (above ++ x ∷ []) after) (λ e.
      closes i left Q R (k + 1) (above ++ x ∷ []) after q.1
      (λ b is. first b (has_back (first_of c x) (when (may_be_empty c x) (beginnings c after)) b (subst (λ t. has (when t (beginnings c after)) b ≡ true) (sym e) is)))
      (λ all b is. last (and_both (may_be_empty c x) (all_empty c after) e all) b is)
      (λ b n ok is. subst (λ s. says R b s ≡ true) (sym (append_one above x n)) (carry b (x ∷ n) ok (carried next row (λ s. x ∷ s) b n (implied (may_be_empty c x) (all_behind x next row) g.0 e) is))))))
