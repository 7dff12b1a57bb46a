-- What is made of stretches in order is what is made of all places.
use Rattle.std.proofs.Common.{◌≡◌, ℕ, zero, suc, ◌+◌, List, ◌++◌, sym, ap, ◌∙◌, arith, append-nil, append_assoc}
use Rattle.std.specs.List.{range_with_len, flat_map}

-- one list more behind the others
pub flat_map_more : {X : Type 0} (part : ℕ → List X) (a n : ℕ) → flat_map part (range_with_len a (suc n)) ≡ flat_map part (range_with_len a n) ++ part (a + n)
flat_map_more part a zero = let z : a ≡ a + 0 = omega arith in append-nil (part a) ∙ ap part z
flat_map_more {X} part a (suc n) =
    let z : a + 1 + n ≡ a + suc n = omega arith in
    ap (λ (l : List X). part a ++ l) (flat_map_more part (a + 1) n ∙ ap (λ (m : ℕ). flat_map part (range_with_len (a + 1) n) ++ part m) z)
    ∙ sym (append_assoc (part a) (flat_map part (range_with_len (a + 1) n)) (part (a + suc n)))
