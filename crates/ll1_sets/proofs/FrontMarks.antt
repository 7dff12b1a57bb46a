-- Marks on what may stand first in the forms that a nonterminal derives, kept sound, and complete once none is left to be made.
use Rattle.std.proofs.Common.{◌≡◌, ℕ, zero, suc, ◌+◌, ◌<◌, ◌≤◌, ◌⊎◌, inl, inr, List, [], ◌∷◌, ◌++◌, length, get_or, take, drop, Bool, true, false, ◌||◌, eqb, eqb-true, eq-eqb, refl, sym, ◌∙◌, subst, append-nil, arith}
use Rattle.std.proofs.lemmas.Bool.{cases_lt}
use Rattle.std.proofs.lemmas.Option.{none-some, same_Some}
use Rattle.grammar_file.specs.declared.symbols.Symbol.{Symbol}
use Rattle.grammar_file.specs.declared.symbols.Symbol.TheVariants.{Terminal, Nonterminal}
use Rattle.grammar_file.specs.Grammar.{Grammar, IsSymbol, IsWellFormed}
use Rattle.grammar_file.specs.Derivation.{Derives}
use Rattle.grammar_file.specs.Drive.{Rule}
use Rattle.grammar_file.specs.Marks.{AreMarksOf}
use Rattle.grammar_file.specs.Laws.Derives.{derives_step, derives_nil, behind_terminal, first_step}
use Rattle.grammar_file.specs.Laws.Derivations.{derives-append, derives-rest}
use Rattle.grammar_file.specs.Laws.Marks.{IsTurn}
use Rattle.ll1_sets.specs.Predict.{IsLeftRecursive}
use Rattle.ll1_sets.specs.Marking.{all_vanish}
use Rattle.ll1_sets.specs.LeftReached.{AreFrontsMarked, IsLeftClosed, IsLeftReached, IsNextLeft}
use Rattle.ll1_sets.specs.Laws.FormTests.{and, either, or_left, or_right, marking_turn, Nullable, vanishing, nullable_closed}
use Rattle.ll1_sets.specs.Laws.FollowMarks.{parts_of, all_at}

pub one_more_below : (P : ℕ → Type 0) (a : ℕ) → ((n : ℕ) → n < a → ¬ P n) → ¬ P a → (n : ℕ) → n < a + 1 → ¬ P n
one_more_below P a before at n l = go (cases_lt n a)
  where
    go : (n < a) ⊎ (a ≤ n) → ¬ P n
    go (inl m) = before n m
    go (inr m) = let e : a ≡ n = omega arith in subst (λ t. ¬ P t) e at

fronts_append : (nullable marks : List Bool) (u v : List Symbol) → AreFrontsMarked nullable marks u → (all_vanish nullable u ≡ true → AreFrontsMarked nullable marks v) → AreFrontsMarked nullable marks (u ++ v)
fronts_append nullable marks [] v h k = k refl
fronts_append nullable marks (Terminal c ∷ u) v h k = tt
fronts_append nullable marks (Nonterminal x ∷ u) v h k = (h.0, λ n. fronts_append nullable marks u v (h.1 n) (λ w. k (and (get_or nullable x false) (all_vanish nullable u) n w)))

module _ (g : Grammar) where
  -- where a place's nonterminal comes first
  reached_in : (p left : ℕ) (right before after : List Symbol) (x : ℕ) → Rule g p left right → right ≡ before ++ Nonterminal x ∷ after → (ns : List ℕ) → Derives g before ns [] → Derives g (Nonterminal left ∷ []) (p ∷ ns) (Nonterminal x ∷ after)
  reached_in p left right before after x rule parts ns d =
      derives_step g p left right [] ns (Nonterminal x ∷ after) rule (subst (λ f. Derives g f ns (Nonterminal x ∷ after)) (sym (append-nil right ∙ parts)) (derives-rest g ns before [] (Nonterminal x ∷ after) d))

  reached_on : (a left x : ℕ) → IsLeftReached g a left → IsLeftReached g left x → IsLeftReached g a x
  reached_on a left x h k = (
    h.0,
    h.1 ++ (k.0 ∷ k.1),
    k.2 ++ h.2,
    derives-append g (h.0 ∷ h.1) (k.0 ∷ k.1) (Nonterminal a ∷ []) (Nonterminal left ∷ h.2) (Nonterminal x ∷ (k.2 ++ h.2)) h.3 (derives-rest g (k.0 ∷ k.1) (Nonterminal left ∷ []) (Nonterminal x ∷ k.2) h.2 k.3),
  )

  pub left_recursive_within : IsWellFormed g → (a : ℕ) → IsLeftRecursive g a → a < length g.nonterminals
  left_recursive_within well a h = let s = first_step g h.0 a [] h.1 (Nonterminal a ∷ h.2) h.3 in well.lefts h.0 (record { left = a; right = s.0 }) s.1

  module _ (nullable : List Bool) (are : AreMarksOf g (Nullable g) nullable) (a : ℕ) where
    next_is_reached : (marks : List Bool) → ((x : ℕ) → get_or marks x false ≡ true → IsLeftReached g a x) → (x : ℕ) → IsNextLeft nullable marks a g.productions x → IsLeftReached g a x
    next_is_reached marks sound x next = go (either (eqb next.rule.left a) (get_or marks next.rule.left false) next.left_is)
      where
        from_left : IsLeftReached g next.rule.left x
        from_left =
            let k = next.in_right.place in
            let n = vanishing g nullable are.sound (take k next.rule.right) next.in_right.before_is in
            (suc next.number, n.0, drop (k + 1) next.rule.right, reached_in (suc next.number) next.rule.left next.rule.right (take k next.rule.right) (drop (k + 1) next.rule.right) x next.rule_is (parts_of next.rule.right k (Nonterminal x) next.in_right.symbol_is) n.0 n.1)

        go : (eqb next.rule.left a ≡ true) ⊎ (get_or marks next.rule.left false ≡ true) → IsLeftReached g a x
        go (inl e) = subst (λ n. IsLeftReached g n x) (eqb-true next.rule.left a e) from_left
        go (inr m) = reached_on a next.rule.left x (sound next.rule.left m) from_left

    pub left_turn : IsWellFormed g → (marks : List Bool) (x : ℕ) → length marks ≡ length g.nonterminals → ((y : ℕ) → get_or marks y false ≡ true → IsLeftReached g a y) → IsNextLeft nullable marks a g.productions x → IsTurn (IsLeftReached g a) marks x
    left_turn well marks x len sound next =
        marking_turn (IsLeftReached g a) marks x (length g.nonterminals) len (all_at (IsSymbol g) next.rule.right next.in_right.place (Nonterminal x) (well.symbols (suc next.number) next.rule next.rule_is) next.in_right.symbol_is) next.in_right.is_new
        (next_is_reached marks sound x next) sound

    module _ (marks : List Bool) (closed : IsLeftClosed nullable marks a g.productions) where
      right_marked : (p left : ℕ) (right : List Symbol) → Rule g p left right → (eqb left a || get_or marks left false) ≡ true → AreFrontsMarked nullable marks right
      right_marked zero left right rule h = absurd (none-some _ rule)
      right_marked (suc p) left right rule h = closed p (record { left = left; right = right }) rule h

      walk : (ps : List ℕ) (u : List Symbol) (x : ℕ) (rest : List Symbol) → AreFrontsMarked nullable marks u → Derives g u ps (Nonterminal x ∷ rest) → get_or marks x false ≡ true
      walk [] u x rest h d = (subst (AreFrontsMarked nullable marks) (same_Some _ _ d) h).0
      walk (p ∷ ps) [] x rest h d = let e = (derives_nil g (p ∷ ps) (Nonterminal x ∷ rest) d).1 in absurd (cc)
      walk (p ∷ ps) (Terminal c ∷ u) x rest h d = let e = (behind_terminal g c u (p ∷ ps) (Nonterminal x ∷ rest) d).1 in absurd (cc)
      walk (p ∷ ps) (Nonterminal y ∷ u) x rest h d =
          let s = first_step g p y u ps (Nonterminal x ∷ rest) d in
          walk ps (s.0 ++ u) x rest (fronts_append nullable marks s.0 u (right_marked p y s.0 s.1 (or_right (eqb y a) (get_or marks y false) h.0)) (λ v. h.1 (nullable_closed g nullable are p y s.0 s.1 v))) s.2

      pub left_marked : (x : ℕ) → IsLeftReached g a x → get_or marks x false ≡ true
      left_marked x h =
          let s = first_step g h.0 a [] h.1 (Nonterminal x ∷ h.2) h.3 in
          walk h.1 (s.0 ++ []) x h.2 (fronts_append nullable marks s.0 [] (right_marked h.0 a s.0 s.1 (or_left (eqb a a) (get_or marks a false) (eq-eqb a a refl))) (λ v. tt)) s.2
