-- The parts of a certificate make the whole.
use Rattle.std.proofs.Common.{◌≡◌, ◌∙◌, ℕ, zero, suc, ◌+◌, ◌≤◌, List, [], ◌∷◌, length, take, drop, length-drop, Result, Ok, true, refl, sym, ap, subst, arith}
use Rattle.grammar_file.specs.Grammar.{Grammar, Production}
use Rattle.grammar_file.specs.declared.file.GrammarFault.{GrammarFault}
use Rattle.llp_tables.specs.Certificate.{Certificate, Accepts, of_file, some_productions, start_part, production_part, productions_from, terminals_part, nonterminals_part}
use Rattle.llp_tables.proofs.RuleTests.{both, and_both}

module _ {B : Type 0} where
  drop_none : (n : ℕ) → drop {A = B} n [] ≡ []
  drop_none zero = refl
  drop_none (suc n) = refl

  drop_twice : (m n : ℕ) (xs : List B) → drop n (drop m xs) ≡ drop (m + n) xs
  drop_twice m n [] = ap (drop n) (drop_none m) ∙ (drop_none n ∙ sym (drop_none (m + n)))
  drop_twice zero n (x ∷ xs) = ap (λ (k : ℕ). drop k (x ∷ xs)) (let e : n ≡ 0 + n = omega arith in e)
  drop_twice (suc m) n (x ∷ xs) = drop_twice m n xs ∙ ap (λ (k : ℕ). drop k (x ∷ xs)) (let e : suc (m + n) ≡ suc m + n = omega arith in e)

take_all : {B : Type 0} (n : ℕ) (xs : List B) → length xs ≤ n → take n xs ≡ xs
take_all zero [] h = refl
take_all zero (x ∷ xs) h = absurd (omega arith)
take_all (suc n) [] h = refl
take_all (suc n) (x ∷ xs) h = ap (λ (l : List _). x ∷ l) (take_all n xs (omega arith))

module _ (c : Certificate) where
  in_two : (i n : ℕ) (ps : List Production) → productions_from c i (take n ps) ≡ true → productions_from c (i + n) (drop n ps) ≡ true → productions_from c i ps ≡ true
  in_two i zero ps h k = let z : i + 0 ≡ i = omega arith in subst (λ (m : ℕ). productions_from c m ps ≡ true) z k
  in_two i (suc n) [] h k = refl
  in_two i (suc n) (r ∷ rs) h k =
      let b = both (production_part c i (r.left ∷ []) r.right) (productions_from c (i + 1) (take n rs)) h in
      let e : i + suc n ≡ i + 1 + n = omega arith in
      and_both (production_part c i (r.left ∷ []) r.right) (productions_from c (i + 1) rs) b.0 (in_two (i + 1) n rs b.1 (subst (λ (m : ℕ). productions_from c m (drop n rs) ≡ true) e k))

  behind : (m n : ℕ) (ps : List Production) → productions_from c (m + 1) (take n (drop m ps)) ≡ true → productions_from c (m + n + 1) (drop (m + n) ps) ≡ true → productions_from c (m + 1) (drop m ps) ≡ true
  behind m n ps h k =
      let e : m + n + 1 ≡ m + 1 + n = omega arith in
      in_two (m + 1) n (drop m ps) h
      (subst (λ (l : List Production). productions_from c (m + 1 + n) l ≡ true) (sym (drop_twice m n ps)) (subst (λ (i : ℕ). productions_from c i (drop (m + n) ps) ≡ true) e k))

  part_of : (test : Grammar → _) (r : Result Grammar GrammarFault) (g : Grammar) → r ≡ Ok g → of_file test r ≡ true → test g ≡ true
  part_of test r g is h = subst (λ (x : Result Grammar GrammarFault). of_file test x ≡ true) is h

  -- four parts of 56 productions, and the others
  pub accepted_parts : (r : Result Grammar GrammarFault) → of_file (start_part c) r ≡ true → of_file (some_productions c 0 14) r ≡ true → of_file (some_productions c 14 14) r ≡ true
      → of_file (some_productions c 28 14) r ≡ true → of_file (some_productions c 42 14) r ≡ true → of_file (terminals_part c) r ≡ true → of_file (nonterminals_part c) r ≡ true
      → (g : Grammar) → r ≡ Ok g → length g.productions ≡ 56 → Accepts c g
  accepted_parts r start first second third fourth terminals nonterminals g is long =
      let ps = g.productions in
      let l = length-drop 42 ps in
      let few : length (drop 42 ps) ≤ 14 = omega arith in
      let last : productions_from c 43 (drop 42 ps) ≡ true = subst (λ (l : List Production). productions_from c 43 l ≡ true) (take_all 14 (drop 42 ps) few) (part_of (some_productions c 42 14) r g is fourth) in
      let from_28 = behind 28 14 ps (part_of (some_productions c 28 14) r g is third) last in
      let from_14 = behind 14 14 ps (part_of (some_productions c 14 14) r g is second) from_28 in
      record {
        start = part_of (start_part c) r g is start;
        productions = in_two 1 14 ps (part_of (some_productions c 0 14) r g is first) from_14;
        terminals = part_of (terminals_part c) r g is terminals;
        nonterminals = part_of (nonterminals_part c) r g is nonterminals;
      }
