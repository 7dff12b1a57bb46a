-- An accepted certificate's rows by symbol pass the tests of such rows.
use Rattle.std.proofs.Common.{◌≡◌, ℕ, zero, suc, ◌+◌, ◌<◌, ◌≤◌, List, [], ◌∷◌, ◌++◌, length, map, Bool, true, false, not, ◌&&◌, ◌||◌, eqb-true, eq-eqb, sym, refl, ap, ◌∙◌, subst, ◌⊎◌, inl, inr, ⊎_elim, Some, arith}
use Rattle.std.specs.Prelude.{◌==◌, slice_index_or, slice_get}
use Rattle.std.proofs.lemmas.Bool.{cases_eq}
use Rattle.std.specs.List.{list_all, range_with_len, AllByRecursion}
use Rattle.grammar_file.specs.declared.symbols.Symbol.{Symbol}
use Rattle.grammar_file.specs.declared.symbols.Symbol.TheVariants.{Terminal, Nonterminal}
use Rattle.grammar_file.specs.Grammar.{Grammar, Production, begin_mark, end_mark, whole, IsSymbol, IsWellFormed}
use Rattle.llp_tables.specs.SymbolRows.{SymbolRows, AcceptsRows, row_of, closes_all, closed_under, is_closed, apart as apart_by, all_apart, keys}
use Rattle.llp_tables.specs.SymbolRows.{may_be_empty as empty_by, first_of as first_by, all_empty as all_empty_by, first_within, beginnings as beginnings_by, predicts as predicts_by}
use Rattle.llp_tables.specs.Certificate.{Certificate, Row, Accepts, has, within, says, is_function, all_behind, all_in, when, may_be_empty, first_of, follow_of, end_of, row_at, beginnings, all_empty, marks_left, rank_falls, marks_symbol, members_at, at_end, part_from, production_part, productions_from, after_all, right_sides, start_part, terminal_part, nonterminal_part, predicts, apart, apart_from_all}
use Rattle.llp_tables.proofs.Translation.{terminal_rows, symbol_rows}
use Rattle.llp_tables.proofs.RuleTests.{both, and_both, implied, unless, one_of, first_holds, second_holds, all_map}
use Rattle.llp_tables.proofs.Closes.{carried, has_front, has_back, all_has, all_at}
use Rattle.llp_tables.proofs.Translated.{empties, firsts, ends, AllIn, closed, row_after, end_row_is, kept_says}

all_cut : {B : Type 0} (P : B → Bool) (xs ys : List B) → list_all P (xs ++ ys) ≡ true → (list_all P xs ≡ true) × (list_all P ys ≡ true)
all_cut P [] ys h = (refl, h)
all_cut P (x ∷ xs) ys h = let b = both (P x) (list_all P (xs ++ ys)) h in let r = all_cut P xs ys b.1 in (and_both (P x) (list_all P xs) b.0 r.0, r.1)

has_cut : (xs ys : List ℕ) (b : ℕ) → has (xs ++ ys) b ≡ true → (has xs b ≡ true) ⊎ (has ys b ≡ true)
has_cut [] ys b h = inr h
has_cut (x ∷ xs) ys b h = ⊎_elim (λ e. inl (first_holds (x == b) (has xs b) e)) (λ e. ⊎_elim (λ q. inl (second_holds (x == b) (has xs b) q)) (λ q. inr q) (has_cut xs ys b e)) (one_of (x == b) (has (xs ++ ys) b) h)

when_has : (b : Bool) (xs ys : List ℕ) (n : ℕ) → ((n : ℕ) → has xs n ≡ true → has ys n ≡ true) → has (when b xs) n ≡ true → has (when b ys) n ≡ true
when_has true xs ys n f h = f n h
when_has false xs ys n f h = absurd (cc)

module _ (c : Certificate) (g : Grammar) where
  abbrev o : SymbolRows
  o = symbol_rows c g

  all_empty_same : (xs : List Symbol) → all_empty_by o xs ≡ all_empty c xs
  all_empty_same [] = refl
  all_empty_same (x ∷ xs) = λ i. empties c g x i && all_empty_same xs i

  first_ok : (left : ℕ) (xs : List Symbol) → within (beginnings c xs) (slice_index_or c.first left []) ≡ true → first_within o left xs ≡ true
  first_ok left [] h = refl
  first_ok left (x ∷ xs) h =
      let P = λ (b : ℕ). has (slice_index_or c.first left []) b in
      let b = all_cut P (first_of c x) (when (may_be_empty c x) (beginnings c xs)) h in
      and_both (list_all P (first_by o x)) (not (empty_by o x) || first_within o left xs) (subst (λ ns. list_all P ns ≡ true) (sym (firsts c g x)) b.0)
      (subst (λ e. (not e || first_within o left xs) ≡ true) (sym (empties c g x))
      (unless (may_be_empty c x) (first_within o left xs) (λ e. first_ok left xs (subst (λ t. list_all P (when t (beginnings c xs)) ≡ true) e b.1))))

  production_closed : (i : ℕ) (r : Production) → production_part c i (r.left ∷ []) r.right ≡ true → slice_get (right_sides g) i ≡ Some r.right → AllIn c g r.right → is_closed o r ≡ true
  production_closed i r h is inside =
      let left = r.left in
      let right = r.right in
      let p = both (list_all (λ l. marks_left c l right) (left ∷ [])) (part_from c i 0 (left ∷ []) right) h in
      let q = both (marks_left c left right) (list_all (λ l. marks_left c l right) []) p.0 in
      let m = both (not (all_empty c right) || slice_index_or c.empty left false) (within (beginnings c right) (slice_index_or c.first left []) && rank_falls c left right) q.0 in
      let w = both (within (beginnings c right) (slice_index_or c.first left [])) (rank_falls c left right) m.1 in
      let e : (not (all_empty_by o right) || empty_by o (Nonterminal left)) ≡ true = sym (λ i. not (sym (all_empty_same right) i) || sym (empties c g (Nonterminal left)) i) ∙ m.0 in
      and_both ((not (all_empty_by o right) || empty_by o (Nonterminal left)) && first_within o left right) (closed_under o left right)
      (and_both (not (all_empty_by o right) || empty_by o (Nonterminal left)) (first_within o left right) e (first_ok left right w.0))
      (closed c g i left right [] right is refl inside p.1)

  productions_closed : (n : ℕ) (ps : List Production) → productions_from c n ps ≡ true → ((k : ℕ) (r : Production) → slice_get ps k ≡ Some r → (slice_get (right_sides g) (n + k) ≡ Some r.right) × AllIn c g r.right) → list_all (is_closed o) ps ≡ true
  productions_closed n [] h at = refl
  productions_closed n (r ∷ rs) h at =
      let b = both (production_part c n (r.left ∷ []) r.right) (productions_from c (n + 1) rs) h in
      let a = at 0 r refl in
      let z : n + 0 ≡ n = omega arith in
      and_both (is_closed o r) (list_all (is_closed o) rs) (production_closed n r b.0 (subst (λ m. slice_get (right_sides g) m ≡ Some r.right) z a.0) a.1)
      (productions_closed (n + 1) rs b.1 (λ k q is. let t = at (suc k) q is in let e : n + suc k ≡ n + 1 + k = omega arith in (subst (λ m. slice_get (right_sides g) m ≡ Some q.right) e t.0, t.1)))

  rows_functions : (a n : ℕ) → list_all (terminal_part c g) (range_with_len a n) ≡ true → list_all is_function (terminal_rows c g a n) ≡ true
  rows_functions a zero h = refl
  rows_functions a (suc n) h =
      let b = both (terminal_part c g a) (list_all (terminal_part c g) (range_with_len (a + 1) n)) h in
      and_both (is_function (after_all c 0 a (right_sides g))) (list_all is_function (terminal_rows c g (a + 1) n)) b.0
      (rows_functions (a + 1) n b.1)

  -- ---- predictions

  beginnings_same : (xs : List Symbol) → beginnings_by o xs ≡ beginnings c xs
  beginnings_same [] = refl
  beginnings_same (x ∷ xs) = λ i. firsts c g x i ++ when (empties c g x i) (beginnings_same xs i)

  keys_follow : (l b : ℕ) (row : Row) → list_all (λ e. says (end_of c l) e.0 e.1 && has (follow_of c l) e.0) row ≡ true → has (map (λ e. e.0) row) b ≡ true → has (follow_of c l) b ≡ true
  keys_follow l b [] h k = absurd (cc)
  keys_follow l b (e ∷ es) h k =
      let t = both (says (end_of c l) e.0 e.1 && has (follow_of c l) e.0) (list_all (λ e. says (end_of c l) e.0 e.1 && has (follow_of c l) e.0) es) h in
      let s = both (says (end_of c l) e.0 e.1) (has (follow_of c l) e.0) t.0 in
      ⊎_elim (λ q. let p : e.0 ≡ b = eqb-true e.0 b q in subst (λ n. has (follow_of c l) n ≡ true) p s.1) (λ q. keys_follow l b es t.1 q) (one_of (e.0 == b) (has (map (λ e. e.0) es) b) k)

  predicts_less : (r : Production) (b : ℕ) → has (predicts_by o r).1 b ≡ true → has (predicts c r) b ≡ true
  predicts_less r b h = ⊎_elim (λ q. has_front (beginnings c r.right) (when (all_empty c r.right) (follow_of c r.left)) b (subst (λ ns. has ns b ≡ true) (beginnings_same r.right) q))
      (λ q. has_back (beginnings c r.right) (when (all_empty c r.right) (follow_of c r.left)) b
      (when_has (all_empty c r.right) (keys o (row_of o (Nonterminal r.left))) (follow_of c r.left) b (λ n k. keys_follow r.left n (row_of o (Nonterminal r.left)) (ends c g r.left) k)
      (subst (λ ns. has ns b ≡ true) (λ i. when (all_empty_same r.right i) (keys o (row_of o (Nonterminal r.left)))) q)))
      (has_cut (beginnings_by o r.right) (when (all_empty_by o r.right) (keys o (row_of o (Nonterminal r.left)))) b h)

  not_false : (b : Bool) → not b ≡ true → b ≡ true → ⊥
  not_false true h k = absurd (cc)
  not_false false h k = absurd (cc)

  is_not : (b : Bool) → (b ≡ true → ⊥) → not b ≡ true
  is_not true f = absurd (f refl)
  is_not false f = refl

  apart_less : (r q : Production) → apart c (predicts c r) (predicts c q) ≡ true → list_all (λ b. not (has (predicts_by o q).1 b)) (predicts_by o r).1 ≡ true
  apart_less r q h = all_has (λ b. not (has (predicts_by o q).1 b)) (predicts_by o r).1
      (λ b is. is_not (has (predicts_by o q).1 b) (λ k. not_false (has (predicts c q) b) (all_at (λ b. not (has (predicts c q) b)) (predicts c r) b h (predicts_less r b is)) (predicts_less q b k)))

  apart_each : (r : Production) (rs : List Production) → apart_from_all c (predicts c r) r.left rs ≡ true → list_all (apart_by (predicts_by o r)) (map (predicts_by o) rs) ≡ true
  apart_each r [] h = refl
  apart_each r (q ∷ qs) h =
      let b = both (not (q.left == r.left) || apart c (predicts c r) (predicts c q)) (apart_from_all c (predicts c r) r.left qs) h in
      and_both (apart_by (predicts_by o r) (predicts_by o q)) (list_all (apart_by (predicts_by o r)) (map (predicts_by o) qs))
      (unless (r.left == q.left) (list_all (λ b. not (has (predicts_by o q).1 b)) (predicts_by o r).1)
      (λ e. let s : r.left ≡ q.left = eqb-true r.left q.left e in apart_less r q (implied (q.left == r.left) (apart c (predicts c r) (predicts c q)) b.0 (eq-eqb q.left r.left (sym s)))))
      (apart_each r qs b.1)

  pub all_apart_from : (ps : List Production) → ((r : Production) (k : ℕ) → slice_get ps k ≡ Some r → nonterminal_part c r.left ps ≡ true) → all_apart (map (predicts_by o) ps) ≡ true
  all_apart_from [] at = refl
  all_apart_from (r ∷ rs) at =
      let b = both (not (r.left == r.left) || apart_from_all c (predicts c r) r.left rs) (nonterminal_part c r.left rs) (at r 0 refl) in
      and_both (list_all (apart_by (predicts_by o r)) (map (predicts_by o) rs)) (all_apart (map (predicts_by o) rs))
      (apart_each r rs (implied (r.left == r.left) (apart_from_all c (predicts c r) r.left rs) b.0 (eq-eqb r.left r.left refl)))
      (all_apart_from rs (λ q k is. (both (not (r.left == q.left) || apart_from_all c (predicts c r) q.left rs) (nonterminal_part c q.left rs) (at q (suc k) is)).1))

  -- ---- Start'

  abbrev Te : Symbol
  Te = Terminal (end_mark g)

  abbrev N0 : Symbol
  N0 = Nonterminal 0

  -- what the tests of Start' say
  record OfStart : Type 0 where
    last : says (row_at c 0 2) (end_mark g) (Te ∷ []) ≡ true
    behind : all_in (row_at c 0 2) (end_of c 0) ≡ true
    follows : has (follow_of c 0) (end_mark g) ≡ true
    firsts_are : list_all (λ b. says (row_at c 0 1) b (N0 ∷ [])) (first_of c N0) ≡ true
    through : may_be_empty c N0 ≡ true → all_behind N0 (row_at c 0 2) (row_at c 0 1) ≡ true

  of_start : start_part c g ≡ true → OfStart
  of_start h =
      let a0 = both (list_all (λ l. marks_left c l (whole g)) []) (part_from c 0 0 [] (whole g)) h in
      let a1 = both (marks_symbol c [] (Terminal begin_mark) (N0 ∷ Te ∷ [])) (members_at c (row_at c 0 0) (Terminal begin_mark) (row_at c 0 1) && part_from c 0 1 [] (N0 ∷ Te ∷ [])) a0.1 in
      let a2 = both (members_at c (row_at c 0 0) (Terminal begin_mark) (row_at c 0 1)) (part_from c 0 1 [] (N0 ∷ Te ∷ [])) a1.1 in
      let a3 = both (marks_symbol c [] N0 (Te ∷ [])) (members_at c (row_at c 0 1) N0 (row_at c 0 2) && part_from c 0 2 [] (Te ∷ [])) a2.1 in
      let a4 = both (members_at c (row_at c 0 1) N0 (row_at c 0 2)) (part_from c 0 2 [] (Te ∷ [])) a3.1 in
      let a5 = both (marks_symbol c [] Te []) (members_at c (row_at c 0 2) Te (row_at c 0 3) && part_from c 0 3 [] []) a4.1 in
      let a6 = both (members_at c (row_at c 0 2) Te (row_at c 0 3)) (part_from c 0 3 [] []) a5.1 in
      let w = both (within (beginnings c (Te ∷ [])) (follow_of c 0)) (not (all_empty c (Te ∷ [])) || list_all (λ l. within (follow_of c l) (follow_of c 0)) []) a3.0 in
      let w1 = both (has (follow_of c 0) (end_mark g)) true w.0 in
      let m = both (is_function (row_at c 0 1)) (list_all (λ b. says (row_at c 0 1) b (N0 ∷ [])) (first_of c N0) && ((not (may_be_empty c N0) || all_behind N0 (row_at c 0 2) (row_at c 0 1)) && at_end c N0 (row_at c 0 2))) a4.0 in
      let m1 = both (list_all (λ b. says (row_at c 0 1) b (N0 ∷ [])) (first_of c N0)) ((not (may_be_empty c N0) || all_behind N0 (row_at c 0 2) (row_at c 0 1)) && at_end c N0 (row_at c 0 2)) m.1 in
      let m2 = both (not (may_be_empty c N0) || all_behind N0 (row_at c 0 2) (row_at c 0 1)) (at_end c N0 (row_at c 0 2)) m1.1 in
      let n = both (is_function (row_at c 0 2)) (list_all (λ b. says (row_at c 0 2) b (Te ∷ [])) (first_of c Te) && ((not (may_be_empty c Te) || all_behind Te (row_at c 0 3) (row_at c 0 2)) && at_end c Te (row_at c 0 3))) a6.0 in
      let n1 = both (list_all (λ b. says (row_at c 0 2) b (Te ∷ [])) (first_of c Te)) ((not (may_be_empty c Te) || all_behind Te (row_at c 0 3) (row_at c 0 2)) && at_end c Te (row_at c 0 3)) n.1 in
      let n2 = both (says (row_at c 0 2) (end_mark g) (Te ∷ [])) true n1.0 in
      record { last = n2.0; behind = m2.1; follows = w1.0; firsts_are = m1.0; through = λ e. implied (may_be_empty c N0) (all_behind N0 (row_at c 0 2) (row_at c 0 1)) m2.0 e }

  start_says : OfStart → says (row_of o N0) (end_mark g) (Te ∷ []) ≡ true
  start_says s =
      (subst (λ r. says r (end_mark g) (Te ∷ []) ≡ true) (sym (end_row_is c g 0))
      (kept_says (follow_of c 0) (end_of c 0) (end_mark g) (Te ∷ []) s.follows (carried (row_at c 0 2) (end_of c 0) (λ m. m) (end_mark g) (Te ∷ []) s.behind s.last)))

  begin_closes : OfStart → closes_all o (row_of o (Terminal begin_mark)) 0 [] (N0 ∷ Te ∷ []) ≡ true
  begin_closes s =
      let R = row_of o (Terminal begin_mark) in
      let into : (b : ℕ) (m : List Symbol) → says (row_at c 0 1) b m ≡ true → says R b m ≡ true = λ b m k. row_after c g 0 (whole g) [] (N0 ∷ Te ∷ []) begin_mark b m refl refl (omega arith) k in
      and_both (list_all (λ b. says R b (N0 ∷ [])) (first_by o N0)) (not (empty_by o N0) || closes_all o R 0 (N0 ∷ []) (Te ∷ []))
      (subst (λ ns. list_all (λ b. says R b (N0 ∷ [])) ns ≡ true) (sym (firsts c g N0)) (all_map (λ b. says (row_at c 0 1) b (N0 ∷ [])) (λ b. says R b (N0 ∷ [])) (first_of c N0) (λ b k. into b (N0 ∷ []) k) s.firsts_are))
      (subst (λ e. (not e || closes_all o R 0 (N0 ∷ []) (Te ∷ [])) ≡ true) (sym (empties c g N0))
      (unless (may_be_empty c N0) (closes_all o R 0 (N0 ∷ []) (Te ∷ [])) (λ e.
      let x = into (end_mark g) (N0 ∷ Te ∷ []) (carried (row_at c 0 2) (row_at c 0 1) (λ m. N0 ∷ m) (end_mark g) (Te ∷ []) (s.through e) s.last) in
      and_both (says R (end_mark g) (N0 ∷ Te ∷ []) && true) true (and_both (says R (end_mark g) (N0 ∷ Te ∷ [])) true x refl) refl)))

  -- ---- the whole

  at_range : (P : ℕ → Bool) (i n a : ℕ) → list_all P (range_with_len i n) ≡ true → i ≤ a → a < i + n → P a ≡ true
  at_range P i zero a h le lt = absurd (omega arith)
  at_range P i (suc n) a h le lt =
      let b = both (P i) (list_all P (range_with_len (i + 1) n)) h in
      ⊎_elim (λ (e : i ≡ a). subst (λ m. P m ≡ true) e b.0) (λ (ne : i ≡ a → ⊥). at_range P (i + 1) n a b.1 (omega arith) (omega arith)) (cases_eq i a)

  side_at : (ps : List Production) (k : ℕ) (r : Production) → slice_get ps k ≡ Some r → slice_get (map (λ q. q.right) ps) k ≡ Some r.right
  side_at [] k r h = absurd (cc)
  side_at (q ∷ qs) zero r h = let e : q ≡ r = cc in ap (λ z. Some z.right) e
  side_at (q ∷ qs) (suc k) r h = side_at qs k r h

  all_inside : (xs : List Symbol) → AllByRecursion (IsSymbol g) xs → AllIn c g xs
  all_inside [] h = tt
  all_inside (Terminal a ∷ xs) h = (let s = h.0.1 in omega arith, all_inside xs h.1)
  all_inside (Nonterminal a ∷ xs) h = (tt, all_inside xs h.1)

  pub passes : IsWellFormed g → Accepts c g → AcceptsRows o g
  passes ok good = record {
    productions = productions_closed 1 g.productions good.productions
        (λ k r is. let e : suc k ≡ 1 + k = omega arith in (subst (λ m. slice_get (right_sides g) m ≡ Some r.right) e (side_at g.productions k r is), all_inside r.right (ok.symbols (suc k) r is)));
    start = start_says (of_start good.start);
    begin = begin_closes (of_start good.start);
    predictions = all_apart_from g.productions (λ r k is. at_range (λ a. nonterminal_part c a g.productions) 0 (length g.nonterminals) r.left good.nonterminals (omega arith) (let l = ok.lefts (suc k) r is in omega arith));
    rows = rows_functions 0 (end_mark g + 1) good.terminals;
  }
