-- What a walk along a list has told so far.
use Rattle.std.proofs.Common.{◌≡◌, ℕ, zero, suc, ◌+◌, ◌<◌, List, [], ◌∷◌, ◌++◌, length, map, take, get_or, refl, sym, ap, ◌∙◌, arith, append_assoc}
use Rattle.std.specs.List.{range_with_len, zip}
use Rattle.std.proofs.lemmas.List.{take_more}
use Rattle.std.proofs.lemmas.List.FromFn.{map-range_with_len_more}
use Rattle.state_monoid.specs.Automaton.{Automaton, run, step}
use Rattle.state_monoid.specs.Words.{run_append}
use Rattle.pass_tables.specs.Tables.{pairs_in}

-- ---- lists that grow

-- what a function gives for one number more, behind others
pub one_more : {X : Type 0} (f : ℕ → X) (old before after : List X) (k : ℕ) (x : X) → before ≡ old ++ map f (range_with_len 0 k) → after ≡ before ++ x ∷ [] → x ≡ f k
    → after ≡ old ++ map f (range_with_len 0 (k + 1))
one_more f old before after k x is pushed same =
    pushed ∙ (λ i. is i ++ same i ∷ []) ∙ append_assoc old (map f (range_with_len 0 k)) (f k ∷ []) ∙ ap (λ xs. old ++ xs) (sym (map-range_with_len_more f 0 k k (omega arith)))

-- ---- an automaton

-- the state behind one byte more
pub run_next : (d : Automaton) (s : ℕ) (text : List ℕ) (i : ℕ) → i < length text → run d s (take (i + 1) text) ≡ step d (run d s (take i text)) (get_or text i 0)
run_next d s text i h = ap (run d s) (take_more text i 0 h) ∙ run_append d s (take i text) (get_or text i 0 ∷ [])

-- ---- pairs

-- one pair more, behind a first item
pairs_next : (first : ℕ) (word : List ℕ) (i : ℕ) → i < length word
    → zip (first ∷ take (suc i) word) (take (suc i) word) ≡ zip (first ∷ take i word) (take i word) ++ (get_or (first ∷ word) i 0, get_or word i 0) ∷ []
pairs_next first [] i h = absurd (omega arith)
pairs_next first (x ∷ word) zero h = refl
pairs_next first (x ∷ word) (suc i) h = ap (λ (ps : List (ℕ × ℕ)). (first, x) ∷ ps) (pairs_next x word i (omega arith))

pub pairs_more : (word : List ℕ) (i : ℕ) → i < length word → pairs_in (take (i + 1) word) ≡ pairs_in (take i word) ++ (get_or (0 ∷ word) i 0, get_or word i 0) ∷ []
pairs_more word i h = let on : i + 1 ≡ suc i = omega arith in ap (λ (n : ℕ). pairs_in (take n word)) on ∙ pairs_next 0 word i h

-- the item behind a place stands before the next place
pub behind_next : (first : ℕ) (word : List ℕ) (i : ℕ) → get_or word i 0 ≡ get_or (first ∷ word) (i + 1) 0
behind_next first word i = let on : suc i ≡ i + 1 = omega arith in ap (λ (n : ℕ). get_or (first ∷ word) n 0) on
