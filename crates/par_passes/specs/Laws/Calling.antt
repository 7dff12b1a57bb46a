-- What callers of passes need beside the passes' clauses.
use Rattle.std.proofs.Common.{◌≡◌, ℕ, Bool, true, false, List, [], ◌∷◌, length, slice_index_or, map, filter, cond, refl, ap, ◌∙◌}
use Rattle.std.specs.List.{zip, range_with_len}
use Rattle.std.proofs.lemmas.List.FromFn.{fill_by_all}
use Rattle.std.proofs.lemmas.Simd.{map-map}
use Rattle.par_passes.specs.Passes.{marked}
pub use Rattle.par_passes.specs.Laws.Together.{if_ok}

keeps : {T : Type 0} (x : T) (b v : Bool) (pairs : List (T × Bool)) (rest : List T) → map (λ p. p.0) pairs ≡ rest → map (λ p. p.0) (cond b ((x, v) ∷ pairs) pairs) ≡ cond b (x ∷ rest) rest
keeps {T} x true v pairs rest is = ap (λ (l : List T). x ∷ l) is
keeps x false v pairs rest is = is

-- marks that a function makes keep what the function says
pub marked_by : {T : Type 0} (keep : T → Bool) (xs : List T) → marked xs (map keep xs) ≡ filter keep xs
marked_by keep [] = refl
marked_by keep (x ∷ xs) = keeps x (keep x) (keep x) (filter (λ p. p.1) (zip xs (map keep xs))) (filter keep xs) (marked_by keep xs)

-- the places of the items that a function says true of
pub places_by : {T : Type 0} (keep : T → Bool) (xs : List T) (d : T) → marked (range_with_len 0 (length xs)) (map keep xs) ≡ filter (λ k. keep (slice_index_or xs k d)) (range_with_len 0 (length xs))
places_by {T} keep xs d =
    let places : List ℕ = range_with_len 0 (length xs) in
    let all : xs ≡ map (λ k. slice_index_or xs k d) places = fill_by_all (λ k. slice_index_or xs k d) xs (length xs) d refl (λ k h. refl) in
    ap (λ (l : List T). marked places (map keep l)) all
    ∙ (ap (marked places) (map-map keep (λ (k : ℕ). slice_index_or xs k d) places) ∙ marked_by (λ k. keep (slice_index_or xs k d)) places)
