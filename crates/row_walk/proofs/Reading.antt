-- Where a subtree stands in the left parse and among the owned tokens.
use Rattle.std.proofs.Common.{◌≡◌, ℕ, zero, suc, ◌+◌, List, [], ◌∷◌, ◌++◌, length, map, take, drop, get_or, refl, sym, ap, ◌∙◌, arith, length-append}
use Rattle.std.proofs.Math.Seq.{drop-nil}
use Rattle.source_meaning.specs.Lexemes.{Token}
use Rattle.source_meaning.specs.Grammar.{Nonterminal, Symbol, Production, Tree, node, Forest, done, leaf, tree, left_parse, forest_parse}
use Rattle.row_laws.specs.Levels.{width}
use Rattle.row_laws.specs.Owned.{reads_count, cut, tree_reads, forest_reads}
use Rattle.row_walk.proofs.Recursion.{reads_in}

pub drop_sum : {X : Type 0} (c k : ℕ) (xs : List X) → drop c (drop k xs) ≡ drop (k + c) xs
drop_sum c zero xs = ap (λ (z : ℕ). drop z xs) (omega arith)
drop_sum c (suc k) [] = drop-nil c ∙ sym (drop-nil (suc k + c))
drop_sum c (suc k) (x ∷ xs) = drop_sum c k xs ∙ ap (λ (z : ℕ). drop z (x ∷ xs)) (let e : suc (k + c) ≡ suc k + c = omega arith in e)

drop_past : {X : Type 0} (xs ys : List X) → drop (length xs) (xs ++ ys) ≡ ys
drop_past [] ys = refl
drop_past (x ∷ xs) ys = drop_past xs ys

-- the item at a place, and what stands behind it
pub there : {X : Type 0} (i : ℕ) (xs : List X) (x d : X) (ys : List X) → drop i xs ≡ x ∷ ys → get_or xs i d ≡ x
there zero [] x d ys e = absurd (cc)
there zero (z ∷ zs) x d ys e = cc
there (suc i) [] x d ys e = absurd (cc)
there (suc i) (z ∷ zs) x d ys e = there i zs x d ys e

pub behind_it : {X : Type 0} (i : ℕ) (xs : List X) (x : X) (ys : List X) → drop i xs ≡ x ∷ ys → drop (suc i) xs ≡ ys
behind_it zero [] x ys e = absurd (cc)
behind_it zero (z ∷ zs) x ys e = cc
behind_it (suc i) [] x ys e = absurd (cc)
behind_it (suc i) (z ∷ zs) x ys e = behind_it i zs x ys e

first_taken : {X : Type 0} (c : ℕ) (xs : List X) (x : X) (ys : List X) → take c xs ≡ x ∷ ys → (zs : List X) × (xs ≡ x ∷ zs)
first_taken zero xs x ys e = absurd (cc)
first_taken (suc c) [] x ys e = absurd (cc)
first_taken (suc c) (z ∷ zs) x ys e = (zs, (let g : z ≡ x = cc in ap (λ w. w ∷ zs) g))

pub first_there : (k c : ℕ) (ts : List Token) (x d : Token) (ys : List Token) → take c (drop k ts) ≡ x ∷ ys → get_or ts k d ≡ x
first_there k c ts x d ys e = let q = first_taken c (drop k ts) x ys e in there k ts x d q.0 q.1

-- ---- the left parse
pub past_parse : {a : Nonterminal} (r : Tree a) (ps : List Production) (i : ℕ) (qs : List Production) → drop i ps ≡ left_parse r ++ qs → drop (i + width r) ps ≡ qs
past_parse r ps i qs e = sym (drop_sum (width r) i ps) ∙ ap (λ l. drop (width r) l) e ∙ drop_past (left_parse r) qs

-- ---- tokens
cut_both : (xs ys : List Production) (ts : List Token) → cut (map reads_count (xs ++ ys)) ts ≡ cut (map reads_count xs) ts ++ cut (map reads_count ys) (drop (reads_in xs) ts)
cut_both [] ys ts = refl
cut_both (x ∷ xs) ys ts =
    ap (λ l. take (reads_count x) ts ∷ l) (cut_both xs ys (drop (reads_count x) ts))
    ∙ ap (λ l. take (reads_count x) ts ∷ (cut (map reads_count xs) (drop (reads_count x) ts) ++ cut (map reads_count ys) l)) (drop_sum (reads_in xs) (reads_count x) ts)

cut_many : (xs : List Production) (ts : List Token) → length (cut (map reads_count xs) ts) ≡ length xs
cut_many [] ts = refl
cut_many (x ∷ xs) ts = ap suc (cut_many xs (drop (reads_count x) ts))

mutual
  reads_many : {a : Nonterminal} (r : Tree a) → length (tree_reads r) ≡ width r
  reads_many (node p f) = ap suc (forest_reads_many f)

  forest_reads_many : {ss : List Symbol} (f : Forest ss) → length (forest_reads f) ≡ length (forest_parse f)
  forest_reads_many done = refl
  forest_reads_many (leaf l f) = forest_reads_many f
  forest_reads_many (tree r f) = omega (arith, length-append (tree_reads r) (forest_reads f), length-append (left_parse r) (forest_parse f), reads_many r, forest_reads_many f)

same_behind : {X : Type 0} (xs ys us vs : List X) → length xs ≡ length us → xs ++ ys ≡ us ++ vs → ys ≡ vs
same_behind [] ys [] vs e g = g
same_behind [] ys (u ∷ us) vs e g = absurd (omega arith)
same_behind (x ∷ xs) ys [] vs e g = absurd (omega arith)
same_behind (x ∷ xs) ys (u ∷ us) vs e g = same_behind xs ys us vs (omega arith) (let h : xs ++ ys ≡ us ++ vs = cc in h)

pub past_reads : {a : Nonterminal} (r : Tree a) (ts : List Token) (k : ℕ) (qs : List Production) (rest : List (List Token)) → cut (map reads_count (left_parse r ++ qs)) (drop k ts) ≡ tree_reads r ++ rest → cut (map reads_count qs) (drop (k + reads_in (left_parse r)) ts) ≡ rest
past_reads r ts k qs rest e =
    ap (λ l. cut (map reads_count qs) l) (sym (drop_sum (reads_in (left_parse r)) k ts))
    ∙ same_behind (cut (map reads_count (left_parse r)) (drop k ts)) (cut (map reads_count qs) (drop (reads_in (left_parse r)) (drop k ts))) (tree_reads r) rest (cut_many (left_parse r) (drop k ts) ∙ sym (reads_many r)) (sym (cut_both (left_parse r) qs (drop k ts)) ∙ e)
