-- Which faults are among those of joined lists.
use Rattle.std.proofs.Common.{ℕ, zero, suc, ◌<◌, ◌⊎◌, inl, inr, List, [], ◌∷◌, ◌++◌, length, get_or, arith}
use Rattle.std.specs.Prelude.{flat_map}
use Rattle.source_meaning.specs.Scope.{Fault}
use Rattle.phase_faults.specs.Keys.{IsAmong}

pub among_append : (x : Fault) (us bs : List Fault) → IsAmong x (us ++ bs) → IsAmong x us ⊎ IsAmong x bs
among_append x [] bs h = inr h
among_append x (a ∷ us) bs (inl e) = inl (inl e)
among_append x (a ∷ us) bs (inr h) = elim (among_append x us bs h) [ inl i ↦ inl (inr i) | inr j ↦ inr j ]

pub among_left : (x : Fault) (us bs : List Fault) → IsAmong x us → IsAmong x (us ++ bs)
among_left x [] bs h = absurd h
among_left x (a ∷ us) bs (inl e) = inl e
among_left x (a ∷ us) bs (inr h) = inr (among_left x us bs h)

pub among_right : (x : Fault) (us bs : List Fault) → IsAmong x bs → IsAmong x (us ++ bs)
among_right x [] bs h = h
among_right x (a ∷ us) bs h = inr (among_right x us bs h)

-- a fault of a list of items is that of one of them
pub among_flat : {A : Type 0} (g : A → List Fault) (d : A) (x : Fault) (xs : List A) → IsAmong x (flat_map g xs) → (k : ℕ) × (k < length xs) × IsAmong x (g (get_or xs k d))
among_flat g d x [] h = absurd h
among_flat g d x (y ∷ ys) h = elim (among_append x (g y) (flat_map g ys) h) [
  | inl i ↦ (0, omega arith, i)
  | inr j ↦ let a = among_flat g d x ys j in (suc a.0, (let l = a.1 in omega arith), a.2)
]

pub flat_among : {A : Type 0} (g : A → List Fault) (d : A) (x : Fault) (xs : List A) (k : ℕ) → k < length xs → IsAmong x (g (get_or xs k d)) → IsAmong x (flat_map g xs)
flat_among g d x [] k l h = absurd (omega arith)
flat_among g d x (y ∷ ys) zero l h = among_left x (g y) (flat_map g ys) h
flat_among g d x (y ∷ ys) (suc k) l h = among_right x (g y) (flat_map g ys) (flat_among g d x ys k (omega arith) h)
