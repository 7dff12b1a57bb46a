-- What is made of the chunks, one behind the other, is what is made of the whole list.
use Rattle.std.proofs.Common.{Bool, filter, ◌∷◌, Result, Ok, Err, ◌≡◌, ℕ, zero, suc, ◌+◌, ◌*◌, ◌<◌, ◌≤◌, List, [], ◌++◌, length, take, drop, map, All, refl, sym, ap, ◌∙◌, subst, arith, add-one, suc-mul, take-add}
use Rattle.std.specs.Prelude.{IfOk}
use Rattle.par_passes.specs.Passes.{marked}
use Rattle.std.specs.List.{range_with_len, flat_map, zip}
use Rattle.std.proofs.lemmas.List.{take_all, map-append}
use Rattle.std.proofs.lemmas.List.Elements.{filter-append, All-take, All-drop}
use Rattle.chunk_seats.specs.Chunks.{chunk_of, chunk_count}
use Rattle.chunk_seats.specs.Laws.Counted.{chunks_all}
use Rattle.scan_lookback.specs.Laws.Lists.{flat_map_more}

module _ {X Y : Type 0} (h : List X → List Y) (none : h [] ≡ []) (parts : (xs ys : List X) → h (xs ++ ys) ≡ h xs ++ h ys) (size : ℕ) (items : List X) where
  first_chunks : (c : ℕ) → flat_map (λ k. h (chunk_of size items k)) (range_with_len 0 c) ≡ h (take (c * size) items)
  first_chunks zero = let n : 0 ≡ 0 * size = omega arith in sym none ∙ ap (λ (k : ℕ). h (take k items)) n
  first_chunks (suc c) =
      let z : 0 + c ≡ c = omega arith in
      let step : c * size + size ≡ suc c * size = sym (suc-mul c size) in
      ap (λ (k : ℕ). flat_map (λ k. h (chunk_of size items k)) (range_with_len 0 k)) (sym (add-one c))
      ∙ (flat_map_more (λ k. h (chunk_of size items k)) 0 c
      ∙ (ap (λ (l : List Y). l ++ h (chunk_of size items (0 + c))) (first_chunks c)
      ∙ (ap (λ (k : ℕ). h (take (c * size) items) ++ h (chunk_of size items k)) z
      ∙ (sym (parts (take (c * size) items) (chunk_of size items c))
      ∙ (sym (ap h (take-add (c * size) size items)) ∙ ap (λ (k : ℕ). h (take k items)) step)))))

  pub together : 0 < size → (count : ℕ) → count ≡ chunk_count size (length items) → flat_map (λ k. h (chunk_of size items k)) (range_with_len 0 count) ≡ h items
  together pos count is =
      let all : length items ≤ chunk_count size (length items) * size = chunks_all (length items) size pos in
      let more : length items ≤ count * size = subst (λ (n : ℕ). length items ≤ n * size) (sym is) all in
      first_chunks count ∙ ap h (take_all (count * size) items more)

pub all_chunk : {X : Type 0} (P : X → Type 0) (size : ℕ) (items : List X) (c : ℕ) → All P items → All P (chunk_of size items c)
all_chunk P size items c all = All-take P size (drop (c * size) items) (All-drop P (c * size) items all)

-- what follows from what an answer gives, where it is one
pub if_ok : {A E : Type 0} {P Q : A → Type 0} (r : Result A E) → IfOk r P → ((x : A) → P x → Q x) → IfOk r Q
if_ok (Ok x) p more = more x p
if_ok (Err e) p more = tt

zip_take : {X Y : Type 0} (n : ℕ) (xs : List X) (ys : List Y) → take n (zip xs ys) ≡ zip (take n xs) (take n ys)
zip_take zero xs ys = refl
zip_take (suc n) [] ys = refl
zip_take (suc n) (x ∷ xs) [] = refl
zip_take (suc n) (x ∷ xs) (y ∷ ys) = ap (λ (l : List (_ × _)). (x, y) ∷ l) (zip_take n xs ys)

zip_nil : {X Y : Type 0} (xs : List X) → zip {X = Y} xs [] ≡ []
zip_nil [] = refl
zip_nil (x ∷ xs) = refl

zip_drop : {X Y : Type 0} (n : ℕ) (xs : List X) (ys : List Y) → drop n (zip xs ys) ≡ zip (drop n xs) (drop n ys)
zip_drop zero xs ys = refl
zip_drop (suc n) [] ys = refl
zip_drop (suc n) (x ∷ xs) [] = sym (zip_nil (drop n xs))
zip_drop (suc n) (x ∷ xs) (y ∷ ys) = zip_drop n xs ys

length-zip : {X Y : Type 0} (xs : List X) (ys : List Y) → length ys ≡ length xs → length (zip xs ys) ≡ length xs
length-zip [] ys same = refl
length-zip (x ∷ xs) [] same = absurd (omega arith)
length-zip (x ∷ xs) (y ∷ ys) same = let n : length (zip xs ys) ≡ length xs = length-zip xs ys (omega arith) in omega arith

module _ {T : Type 0} where
  abbrev kept : List (T × Bool) → List T
  kept pairs = map (λ p. p.0) (filter (λ p. p.1) pairs)

  pub kept_parts : (xs ys : List (T × Bool)) → kept (xs ++ ys) ≡ kept xs ++ kept ys
  kept_parts xs ys = ap (map (λ p. p.0)) (filter-append (λ p. p.1) xs ys) ∙ map-append (λ p. p.0) (filter (λ p. p.1) xs) (filter (λ p. p.1) ys)

  -- a chunk of the pairs
  chunk_pairs : (size : ℕ) (items : List T) (marks : List Bool) (c : ℕ) → chunk_of size (zip items marks) c ≡ zip (chunk_of size items c) (chunk_of size marks c)
  chunk_pairs size items marks c = ap (take size) (zip_drop (c * size) items marks) ∙ zip_take size (drop (c * size) items) (drop (c * size) marks)

  pub marked_together : (size : ℕ) (items : List T) (marks : List Bool) → 0 < size → length marks ≡ length items → (count : ℕ) → count ≡ chunk_count size (length items)
      → flat_map (λ k. kept (chunk_of size (zip items marks) k)) (range_with_len 0 count) ≡ marked items marks
  marked_together size items marks pos same count is =
      together kept refl kept_parts size (zip items marks) pos count (is ∙ ap (chunk_count size) (sym (length-zip items marks same)))

  pub marked_chunk : (size : ℕ) (items : List T) (marks : List Bool) (c : ℕ) → marked (chunk_of size items c) (chunk_of size marks c) ≡ kept (chunk_of size (zip items marks) c)
  marked_chunk size items marks c = ap kept (sym (chunk_pairs size items marks c))
