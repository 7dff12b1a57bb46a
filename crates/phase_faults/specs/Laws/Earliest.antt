-- The first of a list of faults is the one with the least key.
use Rattle.std.proofs.Common.{◌≡◌, ◌<◌, ◌≤◌, ◌⊎◌, inl, inr, cond, List, [], ◌∷◌, Some, refl, sym, ap, subst, ◌∙◌, arith}
use Rattle.std.proofs.lemmas.Bool.{cases_lt, lt-ltb, le-ltb, eq-eqb, ne_eqb}
use Rattle.std.specs.Prelude.{nat_lt, ◌==◌, ◌&&◌, ◌||◌}
use Rattle.source_meaning.specs.Scope.{Fault, earlier, earliest_from, earliest}
use Rattle.phase_faults.specs.Keys.{key_of, AreCodes, IsAmong, IsFirst}

earlier_of : (f g : Fault) → f.code < 1024 → g.code < 1024 → ((earlier f g ≡ f) × (key_of f ≤ key_of g)) ⊎ ((earlier f g ≡ g) × (key_of g ≤ key_of f))
earlier_of f g hf hg = elim (cases_lt f.at g.at) [
  | inl l ↦ inl (ap (λ b. cond (b || (f.at == g.at && nat_lt f.code g.code)) f g) (lt-ltb f.at g.at l), omega arith)
  | inr ge ↦ elim (cases_lt g.at f.at) [
    | inl l ↦ inr (ap (λ b. cond (b || (f.at == g.at && nat_lt f.code g.code)) f g) (le-ltb f.at g.at ge) ∙ ap (λ b. cond (b && nat_lt f.code g.code) f g) (ne_eqb f.at g.at (λ e. absurd (omega arith))), omega arith)
    | inr le ↦ elim (cases_lt f.code g.code) [
      | inl l ↦ inl (ap (λ b. cond (b || (f.at == g.at && nat_lt f.code g.code)) f g) (le-ltb f.at g.at ge) ∙ ap (λ b. cond (b && nat_lt f.code g.code) f g) (eq-eqb f.at g.at (omega arith)) ∙ ap (λ b. cond b f g) (lt-ltb f.code g.code l), omega arith)
      | inr l ↦ inr (ap (λ b. cond (b || (f.at == g.at && nat_lt f.code g.code)) f g) (le-ltb f.at g.at ge) ∙ ap (λ b. cond (b && nat_lt f.code g.code) f g) (eq-eqb f.at g.at (omega arith)) ∙ ap (λ b. cond b f g) (le-ltb f.code g.code l), omega arith)
    ]
  ]
]

first_from : (f : Fault) (fs : List Fault) → f.code < 1024 → AreCodes fs → IsFirst (f ∷ fs) (Some (earliest_from f fs))
first_from f [] h hs = (inl refl, λ g i. only g i)
  where
    only : (g : Fault) → IsAmong g (f ∷ []) → key_of f ≤ key_of g
    only g (inl e) = subst (λ x. key_of f ≤ key_of x) (sym e) (omega arith)
    only g (inr i) = absurd i
first_from f (g ∷ gs) h hs = go (earlier_of f g h hs.0) (first_from f gs h hs.1) (first_from g gs hs.0 hs.1)
  where
    go : ((earlier f g ≡ f) × (key_of f ≤ key_of g)) ⊎ ((earlier f g ≡ g) × (key_of g ≤ key_of f)) → IsFirst (f ∷ gs) (Some (earliest_from f gs))
        → IsFirst (g ∷ gs) (Some (earliest_from g gs)) → IsFirst (f ∷ g ∷ gs) (Some (earliest_from (earlier f g) gs))
    go (inl (e, le)) a b = subst (λ x. IsFirst (f ∷ g ∷ gs) (Some (earliest_from x gs))) (sym e) (among a.0, λ x i. least x i)
      where
        among : IsAmong (earliest_from f gs) (f ∷ gs) → IsAmong (earliest_from f gs) (f ∷ g ∷ gs)
        among (inl i) = inl i
        among (inr i) = inr (inr i)

        least : (x : Fault) → IsAmong x (f ∷ g ∷ gs) → key_of (earliest_from f gs) ≤ key_of x
        least x (inl i) = a.1 x (inl i)
        least x (inr (inl i)) = let le' = a.1 f (inl refl) in subst (λ y. key_of (earliest_from f gs) ≤ key_of y) (sym i) (omega arith)
        least x (inr (inr i)) = a.1 x (inr i)
    go (inr (e, le)) a b = subst (λ x. IsFirst (f ∷ g ∷ gs) (Some (earliest_from x gs))) (sym e) (inr b.0, λ x i. least x i)
      where
        least : (x : Fault) → IsAmong x (f ∷ g ∷ gs) → key_of (earliest_from g gs) ≤ key_of x
        least x (inl i) = let le' = b.1 g (inl refl) in subst (λ y. key_of (earliest_from g gs) ≤ key_of y) (sym i) (omega arith)
        least x (inr i) = b.1 x i

pub earliest_first : (fs : List Fault) → AreCodes fs → IsFirst fs (earliest fs)
earliest_first [] hs = refl
earliest_first (f ∷ fs) hs = first_from f fs hs.0 hs.1
