-- The first of some items that passes a test on what it becomes.
use Rattle.std.proofs.Common.{◌≡◌, Bool, true, false, cond, refl, List, [], ◌∷◌, map, Option, Some, None}
use Rattle.std.specs.Prelude.{find, option_map}

pub find_mapped : {A B : Type 0} (f : A → B) (p : B → Bool) (xs : List A) → option_map f (find (λ x. p (f x)) xs) ≡ find p (map f xs)
find_mapped f p [] = refl
find_mapped f p (x ∷ xs) = go (p (f x)) (find_mapped f p xs)
  where
    go : (b : Bool) → option_map f (find (λ x. p (f x)) xs) ≡ find p (map f xs)
        → option_map f (cond b (Some x) (find (λ x. p (f x)) xs)) ≡ cond b (Some (f x)) (find p (map f xs))
    go true rec = refl
    go false rec = rec

pub mapped_twice : {A B C : Type 0} (f : B → C) (g : A → B) (o : Option A) → option_map (λ x. f (g x)) o ≡ option_map f (option_map g o)
mapped_twice f g None = refl
mapped_twice f g (Some x) = refl
