-- Values at places of lists, and words of statuses.
use Rattle.std.proofs.Common.{◌≡◌, ℕ, zero, suc, ◌<◌, List, [], ◌∷◌, length, map, get_or, set, Some, slice_get, refl, sym, ap, arith}
use Rattle.std.proofs.lemmas.List.{map-set}
use Rattle.std.proofs.Math.ListN.{get_or-map}
use Rattle.word_monoid.specs.Monoid.{Ops}
use Rattle.board_core.specs.declared.steps.Status.{Status}
use Rattle.board_core.specs.declared.steps.Status.TheVariants.{X}
use Rattle.board_steps.specs.Parts.{at_least_one, word_of}

some_injective : {A : Type 0} (x y : A) → Some x ≡ Some y → x ≡ y
some_injective x y e = cc

pub value_at : {A : Type 0} (xs : List A) (i : ℕ) (d v : A) → slice_get xs i ≡ Some v → v ≡ get_or xs i d
value_at [] i d v e = absurd cc
value_at (x ∷ xs) zero d v e = sym (some_injective x v e)
value_at (x ∷ xs) (suc i) d v e = value_at xs i d v e

-- what a function's list has at a place
pub mapped_at : {A B : Type 0} (f : A → B) (xs : List A) (i : ℕ) (d : A) (v : B) → slice_get (map f xs) i ≡ Some v → v ≡ f (get_or xs i d)
mapped_at f [] i d v e = absurd cc
mapped_at f (x ∷ xs) zero d v e = sym (some_injective (f x) v e)
mapped_at f (x ∷ xs) (suc i) d v e = mapped_at f xs i d v e

-- an item is replaced by one that the function can't tell from it
pub same_map : {A B : Type 0} (f : A → B) (xs : List A) (i : ℕ) (d y : A) → f y ≡ f (get_or xs i d) → map f (set xs i y) ≡ map f xs
same_map f [] i d y e = refl
same_map f (x ∷ xs) zero d y e = ap (λ (z : _). z ∷ map f xs) e
same_map f (x ∷ xs) (suc i) d y e = ap (λ (l : List _). f x ∷ l) (same_map f xs i d y e)

module _ {I : Type 0} (ops : Ops I) where
  pub words_set : (xs : List (Status I)) (c : ℕ) (st : Status I) → c < length xs → set (at_least_one (map (word_of ops) xs)) c (word_of ops st) ≡ at_least_one (map (word_of ops) (set xs c st))
  words_set [] c st h = absurd (omega arith)
  words_set (x ∷ xs) zero st h = refl
  words_set (x ∷ xs) (suc c) st h = ap (λ (l : List ℕ). word_of ops x ∷ l) (sym (map-set (word_of ops) xs c st))

  pub words_get : (xs : List (Status I)) (j : ℕ) → get_or (at_least_one (map (word_of ops) xs)) j 0 ≡ word_of ops (get_or xs j X)
  words_get [] zero = refl
  words_get [] (suc j) = refl
  words_get (x ∷ xs) j = get_or-map (word_of ops) (x ∷ xs) j X
