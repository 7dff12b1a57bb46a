-- What predicts a production, by marks, and the terminals that can.
use Rattle.std.proofs.Common.{◌≡◌, ℕ, zero, suc, ◌+◌, ◌<◌, ◌≤◌, ◌⊎◌, inl, inr, List, length, get_or, Bool, true, false, ◌&&◌, Option, Some, None, slice_get, sym, ap, ◌∙◌, subst, arith}
use Rattle.std.specs.Prelude.{MatchOption}
use Rattle.std.proofs.lemmas.Bool.{cases_lt, cases_eq}
use Rattle.std.proofs.lemmas.Option.{none-some, same_Some, slice_get_within}
use Rattle.grammar_file.specs.declared.symbols.Symbol.TheVariants.{Nonterminal}
use Rattle.grammar_file.specs.Grammar.{Grammar, Production, production, IsWellFormed}
use Rattle.ll1_sets.specs.Predict.{IsNullable, IsFirst, IsFollow, IsPredicted, IsLl1, HasConflict, IsLeastConflict}
use Rattle.ll1_sets.specs.Width.{width_of}
use Rattle.ll1_sets.specs.Marking.{begins, all_vanish, comes_behind}
use Rattle.ll1_sets.specs.declared.conflicts.Conflict.{Conflict}
use Rattle.ll1_sets.specs.Conflicts.{AreSets, AreTwoLeast, IsLeastOn, IsLeastBelow, LeastOn, LeastBelow}
use Rattle.ll1_sets.specs.Laws.FormTests.{both, and, either, or_left, or_right, vanishing, beginning, vanishes_exactly, begins_exactly}
use Rattle.ll1_sets.specs.Laws.FollowSets.{follow_behind}
use Rattle.ll1_sets.specs.Laws.BehindBounds.{first_within, next_within}

module _ (g : Grammar) where
  module _ (b : ℕ) (nulls firsts follows : List Bool) (sets : AreSets g b nulls firsts follows) where
    pub passes_predicted : (a p : ℕ) (rule : Production) → production g p ≡ Some rule → rule.left ≡ a → comes_behind nulls firsts follows b a rule.right ≡ true → IsPredicted g a p b
    passes_predicted a p rule is left h = (rule, is, left, go (either (begins nulls firsts b rule.right) (all_vanish nulls rule.right && get_or follows a false) h))
      where
        go : (begins nulls firsts b rule.right ≡ true) ⊎ ((all_vanish nulls rule.right && get_or follows a false) ≡ true) → IsFirst g rule.right b ⊎ (IsNullable g rule.right × IsFollow g a b)
        go (inl k) = inl (beginning g nulls firsts b sets.nullable.sound sets.first.sound rule.right k)
        go (inr k) = let t = both (all_vanish nulls rule.right) (get_or follows a false) k in inr (vanishing g nulls sets.nullable.sound rule.right t.0, sets.follow.sound a t.1)

    pub predicted_passes : (a p : ℕ) (rule : Production) → production g p ≡ Some rule → IsPredicted g a p b → (rule.left ≡ a) × (comes_behind nulls firsts follows b a rule.right ≡ true)
    predicted_passes a p rule is h = let same = same_Some h.0 rule (sym h.1 ∙ is) in
        (subst (λ (r : Production). r.left ≡ a) same h.2, subst (λ (r : Production). comes_behind nulls firsts follows b a r.right ≡ true) same (go h.3))
      where
        go : IsFirst g h.0.right b ⊎ (IsNullable g h.0.right × IsFollow g a b) → comes_behind nulls firsts follows b a h.0.right ≡ true
        go (inl f) = or_left (begins nulls firsts b h.0.right) (all_vanish nulls h.0.right && get_or follows a false) (begins_exactly g nulls sets.nullable b firsts sets.first h.0.right f)
        go (inr f) =
            or_right (begins nulls firsts b h.0.right) (all_vanish nulls h.0.right && get_or follows a false)
            (and (all_vanish nulls h.0.right) (get_or follows a false) (vanishes_exactly g nulls sets.nullable h.0.right f.0) (sets.follow.complete a f.1))

  -- ---- the terminals that predict

  module _ (well : IsWellFormed g) where
    pub predicted_within : (a p b : ℕ) → IsPredicted g a p b → b < width_of g
    predicted_within a p b h = go h.3
      where
        go : IsFirst g h.0.right b ⊎ (IsNullable g h.0.right × IsFollow g a b) → b < width_of g
        go (inl f) = first_within g well b h.0.right (well.symbols p h.0 h.1) f
        go (inr f) = let r = follow_behind g a b f.1 in next_within g well (Nonterminal a) b r.0 r.1

    -- ---- the least conflict

    pub ll1_where_none : ((a c : ℕ) → c < width_of g → ¬ HasConflict g a c) → IsLl1 g
    ll1_where_none none a p q b h k = go (cases_eq p q)
      where
        go : (p ≡ q) ⊎ (p ≡ q → ⊥) → p ≡ q
        go (inl e) = e
        go (inr n) = absurd (none a b (predicted_within a p b h) (p, q, n, h, k))

    pub least_of_all : (k : Conflict) → IsLeastBelow g (width_of g) k → IsLeastConflict g k.nonterminal k.b k.p1 k.p2
    least_of_all k h =
        record {
          first = h.pair.first;
          second = h.pair.second;
          in_order = h.pair.in_order;
          no_lesser_production = h.pair.no_lesser_production;
          no_lesser_terminal = h.no_lesser_terminal;
          no_lesser_nonterminal = λ n c l t. h.no_lesser_nonterminal n c l (predicted_within n t.0 c t.3) t;
        }

  -- ---- productions by number

  pub numbered : (productions : List Production) (i : ℕ) (rule : Production) → productions ≡ g.productions → slice_get productions i ≡ Some rule → production g (i + 1) ≡ Some rule
  numbered productions i rule same h = let e : i + 1 ≡ suc i = omega arith in ap (production g) e ∙ (ap (λ ps. slice_get ps i) (sym same) ∙ h)

  pub predicted_number : (a p b : ℕ) → IsPredicted g a p b → (0 < p) × (p ≤ length g.productions)
  predicted_number a zero b h = absurd (none-some h.0 h.1)
  predicted_number a (suc p) b h = let l = slice_get_within g.productions p h.0 h.1 in (omega arith, omega arith)

  -- ---- one more terminal

  up_to : (a n : ℕ) → ((c : ℕ) → c < n → ¬ HasConflict g a c) → ¬ HasConflict g a n → (c : ℕ) → c < n + 1 → ¬ HasConflict g a c
  up_to a n before at c l = go (cases_lt c n)
    where
      go : (c < n) ⊎ (n ≤ c) → ¬ HasConflict g a c
      go (inl m) = before c m
      go (inr m) = let e : n ≡ c = omega arith in subst (λ t. ¬ HasConflict g a t) e at

  pub kept : (n : ℕ) (k : Conflict) → IsLeastBelow g n k → ((a : ℕ) → a < k.nonterminal → ¬ HasConflict g a n) → IsLeastBelow g (n + 1) k
  kept n k h none = record { pair = h.pair; no_lesser_terminal = h.no_lesser_terminal; no_lesser_nonterminal = λ a c l m. up_to a n (λ d i. h.no_lesser_nonterminal a d l i) (none a l) c m }

  pub taken : (n : ℕ) (k : Conflict) → ((a c : ℕ) → a ≤ k.nonterminal → c < n → ¬ HasConflict g a c) → IsLeastOn g n k → IsLeastBelow g (n + 1) k
  taken n k before h =
      record {
        pair = subst (λ t. AreTwoLeast g k.nonterminal t k.p1 k.p2) (sym h.on) h.pair;
        no_lesser_terminal = λ c l. before k.nonterminal c (omega arith) (let e = h.on in omega arith);
        no_lesser_nonterminal = λ a c l m. up_to a n (λ d i. before a d (omega arith) i) (h.no_lesser_nonterminal a l) c m;
      }

  pub first_one : (n : ℕ) → LeastBelow g n None → (next : Option Conflict) → LeastOn g n next → LeastBelow g (n + 1) next
  first_one n none None h = λ a c l. up_to a n (λ d i. none a d i) (h a) c l
  first_one n none (Some k) h = taken n k (λ a c l m. none a c m) h

  -- the least conflict on any terminal, or LL(1)
  pub matched : IsWellFormed g → (n : ℕ) → width_of g ≤ n → (best : Option Conflict) → LeastBelow g n best → MatchOption best (IsLl1 g) (λ k. IsLeastConflict g k.nonterminal k.b k.p1 k.p2)
  matched well n l None h = ll1_where_none well (λ a c m. h a c (omega arith))
  matched well n l (Some k) h = least_of_all well k (record { pair = h.pair; no_lesser_terminal = h.no_lesser_terminal; no_lesser_nonterminal = λ a c i m. h.no_lesser_nonterminal a c i (omega arith) })
