-- Each text has exactly one answer.
use Rattle.std.proofs.Common.{◌≡◌, ℕ, zero, suc, ◌+◌, ◌-◌, ◌<◌, ◌≤◌, List, [], ◌∷◌, length, map, Bool, true, false, cond, Some, Result, Ok, Err, refl, sym, ap, ◌∙◌, subst, arith, ◌⊎◌, inl, inr}
use Rattle.std.proofs.lemmas.Bool.Decides.{nat_tests}
use Rattle.std.specs.Prelude.{slice_get, nat_lt, IfOk, IfErr, MatchResult, ◌==◌}
use Rattle.std.specs.Str.Lines.{lines}
use Rattle.rv_text.specs.declared.fault.AsmFault.{AsmFault}
use Rattle.rv_text.specs.declared.fault.AsmFault.TheVariants.{TooLarge, Line as LineOf, Empty, TooMany, NoMemory}
use Rattle.rv_text.specs.declared.lines.Line.{Line}
use Rattle.rv_text.specs.declared.lines.Line.TheVariants.{Blank, Spells, Wrong}
use Rattle.rv_text.specs.Reading.{line_read}
use Rattle.rv_text.specs.Assembled.{with_line, words_from, counted, assembled, said, words_said, AreRight, AreAllRight, IsAnswer}

-- what is known of lines from the n-th on
abbrev From : ℕ → List Line → Result (List ℕ) AsmFault → Type 0
From n ls (Ok words) = AreAllRight ls × (words ≡ words_said ls)
From n ls (Err fault) = (k : ℕ) × (fault ≡ LineOf (n + k)) × (slice_get ls k ≡ Some Wrong) × AreRight ls k

right_more : (l : Line) (ls : List Line) (k : ℕ) → (Some l ≡ Some Wrong → ⊥) → AreRight ls k → AreRight (l ∷ ls) (suc k)
right_more l ls k other right zero j<k e = other e
right_more l ls k other right (suc j) j<k e = right j (omega arith) e

later : (n k : ℕ) (fault : AsmFault) → fault ≡ LineOf (n + 1 + k) → fault ≡ LineOf (n + suc k)
later n k fault e = e ∙ ap LineOf (omega arith)

step : (n : ℕ) (l : Line) (ls : List Line) (r : Result (List ℕ) AsmFault) → From (n + 1) ls r → From n (l ∷ ls) (with_line n l r)
step n Blank ls (Ok words) h = (right_more Blank ls (length ls) (λ e. absurd (cc)) h.0, h.1)
step n Blank ls (Err fault) h = (suc h.0, later n h.0 fault h.1, h.2, right_more Blank ls h.0 (λ e. absurd (cc)) h.3)
step n (Spells w) ls (Ok words) h = (right_more (Spells w) ls (length ls) (λ e. absurd (cc)) h.0, ap (λ ws. w ∷ ws) h.1)
step n (Spells w) ls (Err fault) h = (suc h.0, later n h.0 fault h.1, h.2, right_more (Spells w) ls h.0 (λ e. absurd (cc)) h.3)
step n Wrong ls r h = (0, ap LineOf (omega arith), refl, λ j j<0 e. absurd (omega arith))

outcome : (n : ℕ) (ls : List (List ℕ)) → From n (map line_read ls) (words_from n ls)
outcome n [] = ((λ j j<0 e. absurd (omega arith)), refl)
outcome n (l ∷ ls) = step n (line_read l) (map line_read ls) (words_from (n + 1) ls) (outcome (n + 1) ls)

inside : (ls : List Line) (k : ℕ) → slice_get ls k ≡ Some Wrong → k < length ls
inside [] k e = absurd (cc)
inside (l ∷ ls) zero e = omega arith
inside (l ∷ ls) (suc k) e = let h : k < length ls = inside ls k e in omega arith

-- from what is known of the lines to the answer, and back
told : (text : List ℕ) (r : Result (List ℕ) AsmFault) → length text ≤ 134217728 → From 1 (said text) r → IsAnswer text (counted r)
told text (Err fault) few h = subst (λ f. IsAnswer text (Err f)) (sym h.1) (few, omega arith, subst (λ k. slice_get (said text) k ≡ Some Wrong) same h.2, subst (AreRight (said text)) same h.3)
  where
    same : h.0 ≡ 1 + h.0 - 1
    same = omega arith
told text (Ok words) few h = go (length words == 0) (nat_lt 4194304 (length words)) refl refl
  where
    go : (a b : Bool) → (length words == 0) ≡ a → nat_lt 4194304 (length words) ≡ b → IsAnswer text (cond a (Err Empty) (cond b (Err TooMany) (Ok words)))
    go true b p q = (few, h.0, sym (ap length h.1) ∙ grind (arith, nat_tests))
    go false true p q = (few, h.0, subst (λ n. 4194304 < n) (ap length h.1) (grind (arith, nat_tests)))
    go false false p q = (few, h.0, h.1, grind (arith, nat_tests), grind (arith, nat_tests))

pub answered : (text : List ℕ) → IsAnswer text (assembled text)
answered text = go (nat_lt 134217728 (length text)) refl
  where
    go : (b : Bool) → nat_lt 134217728 (length text) ≡ b → IsAnswer text (cond b (Err TooLarge) (counted (words_from 1 (lines text))))
    go true e = grind (arith, nat_tests)
    go false e = told text (words_from 1 (lines text)) (grind (arith, nat_tests)) (outcome 1 (lines text))

-- two answers to one text are the same

split : (ls : List Line) (j k : ℕ) → slice_get ls j ≡ Some Wrong → AreRight ls j → slice_get ls k ≡ Some Wrong → AreRight ls k → j ≡ k
split ls j k e right f other = go (nat_lt j k) (nat_lt k j) refl refl
  where
    go : (a b : Bool) → nat_lt j k ≡ a → nat_lt k j ≡ b → j ≡ k
    go true b p q = absurd (other j (grind (arith, nat_tests)) e)
    go false true p q = absurd (right k (grind (arith, nat_tests)) f)
    go false false p q = grind (arith, nat_tests)

wrong_is_right : (ls : List Line) (k : ℕ) → slice_get ls k ≡ Some Wrong → AreAllRight ls → ⊥
wrong_is_right ls k e right = right k (inside ls k e) e

large_is_few : (n : ℕ) → 134217728 < n → n ≤ 134217728 → ⊥
large_is_few n h k = omega arith

pub one_answer : (text : List ℕ) (a b : Result (List ℕ) AsmFault) → IsAnswer text a → IsAnswer text b → a ≡ b
one_answer text (Err TooLarge) (Err TooLarge) h k = refl
one_answer text (Err TooLarge) (Err (LineOf m)) h k = absurd (large_is_few (length text) h k.0)
one_answer text (Err TooLarge) (Err Empty) h k = absurd (large_is_few (length text) h k.0)
one_answer text (Err TooLarge) (Err TooMany) h k = absurd (large_is_few (length text) h k.0)
one_answer text (Err TooLarge) (Ok words) h k = absurd (large_is_few (length text) h k.0)
one_answer text (Err (LineOf n)) (Err TooLarge) h k = absurd (large_is_few (length text) k h.0)
one_answer text (Err (LineOf n)) (Err (LineOf m)) h k = let e : n - 1 ≡ m - 1 = split (said text) (n - 1) (m - 1) h.2 h.3 k.2 k.3 in let p : 0 < n = h.1 in let q : 0 < m = k.1 in let f : n ≡ m = omega arith in ap (λ x. Err (LineOf x)) f
one_answer text (Err (LineOf n)) (Err Empty) h k = absurd (wrong_is_right (said text) (n - 1) h.2 k.1)
one_answer text (Err (LineOf n)) (Err TooMany) h k = absurd (wrong_is_right (said text) (n - 1) h.2 k.1)
one_answer text (Err (LineOf n)) (Ok words) h k = absurd (wrong_is_right (said text) (n - 1) h.2 k.1)
one_answer text (Err Empty) (Err TooLarge) h k = absurd (large_is_few (length text) k h.0)
one_answer text (Err Empty) (Err (LineOf m)) h k = absurd (wrong_is_right (said text) (m - 1) k.2 h.1)
one_answer text (Err Empty) (Err Empty) h k = refl
one_answer text (Err Empty) (Err TooMany) h k = absurd (omega (arith, h.2, k.2))
one_answer text (Err Empty) (Ok words) h k = let e : length words ≡ length (words_said (said text)) = ap length k.2 in absurd (omega (arith, h.2, k.3))
one_answer text (Err TooMany) (Err TooLarge) h k = absurd (large_is_few (length text) k h.0)
one_answer text (Err TooMany) (Err (LineOf m)) h k = absurd (wrong_is_right (said text) (m - 1) k.2 h.1)
one_answer text (Err TooMany) (Err Empty) h k = absurd (omega (arith, h.2, k.2))
one_answer text (Err TooMany) (Err TooMany) h k = refl
one_answer text (Err TooMany) (Ok words) h k = let e : length words ≡ length (words_said (said text)) = ap length k.2 in absurd (omega (arith, h.2, k.4))
one_answer text (Ok words) (Err TooLarge) h k = absurd (large_is_few (length text) k h.0)
one_answer text (Ok words) (Err (LineOf m)) h k = absurd (wrong_is_right (said text) (m - 1) k.2 h.1)
one_answer text (Ok words) (Err Empty) h k = let e : length words ≡ length (words_said (said text)) = ap length h.2 in absurd (omega (arith, h.3, k.2))
one_answer text (Ok words) (Err TooMany) h k = let e : length words ≡ length (words_said (said text)) = ap length h.2 in absurd (omega (arith, h.4, k.2))
one_answer text (Ok words) (Ok others) h k = ap Ok (h.2 ∙ sym k.2)
one_answer text (Err NoMemory) b h k = absurd h
one_answer text a (Err NoMemory) h k = absurd k

-- what says what is assembled says which answer is the text's
pub exact : {V : Type 0} (text : List ℕ) (r : Result V AsmFault) (items : V → List ℕ) → IfOk r (λ v. assembled text ≡ Ok (items v))
    → IfErr r (λ fault. (fault ≡ NoMemory) ⊎ (assembled text ≡ Err fault)) → (told : Result (List ℕ) AsmFault) → IsAnswer text told
    → MatchResult r (λ v. told ≡ Ok (items v)) (λ fault. (fault ≡ NoMemory) ⊎ (told ≡ Err fault))
exact text (Ok v) items h k told is = one_answer text told (assembled text) is (answered text) ∙ h
exact text (Err fault) items h (inl e) told is = inl e
exact text (Err fault) items h (inr e) told is = inr (one_answer text told (assembled text) is (answered text) ∙ e)
