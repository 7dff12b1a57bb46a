-- Lists by place: beginnings, rests, and lists of the values of a function.
use Rattle.std.proofs.Common.{◌≡◌, ℕ, zero, suc, ◌+◌, ◌<◌, List, [], ◌∷◌, ◌++◌, length, take, drop, map, Some, slice_get, refl, sym, ap, ◌∙◌, arith, append_assoc}
use Rattle.std.specs.List.{range_with_len, flat_map}
use Rattle.std.proofs.lemmas.List.{append-nil}
use Rattle.std.proofs.lemmas.List.FromFn.{length-map-range_with_len, get_or-map-range_with_len}
use Rattle.std.proofs.lemmas.Option.{slice_get-get_or}

module _ {X : Type 0} where
  pub get_there : (xs : List X) (i : ℕ) → i < length xs → (x : X) × (slice_get xs i ≡ Some x)
  get_there [] i h = absurd (omega arith)
  get_there (y ∷ ys) zero h = (y, refl)
  get_there (y ∷ ys) (suc i) h = get_there ys i (omega arith)

  pub get_take : (n : ℕ) (xs : List X) (i : ℕ) (x : X) → slice_get (take n xs) i ≡ Some x → (i < n) × (slice_get xs i ≡ Some x)
  get_take zero xs i x h = absurd cc
  get_take (suc n) [] i x h = absurd cc
  get_take (suc n) (y ∷ ys) zero x h = (omega arith, h)
  get_take (suc n) (y ∷ ys) (suc i) x h = let r = get_take n ys i x h in (omega (arith, r.0), r.1)

  pub take_get : (n : ℕ) (xs : List X) (i : ℕ) (x : X) → i < n → slice_get xs i ≡ Some x → slice_get (take n xs) i ≡ Some x
  take_get zero xs i x h at = absurd (omega arith)
  take_get (suc n) [] i x h at = absurd cc
  take_get (suc n) (y ∷ ys) zero x h at = at
  take_get (suc n) (y ∷ ys) (suc i) x h at = take_get n ys i x (omega arith) at

  pub get_drop : (a : ℕ) (xs : List X) (i : ℕ) → slice_get (drop a xs) i ≡ slice_get xs (a + i)
  get_drop zero xs i = let z : i ≡ 0 + i = omega arith in ap (slice_get xs) z
  get_drop (suc a) [] i = refl
  get_drop (suc a) (y ∷ ys) i = let z : suc (a + i) ≡ suc a + i = omega arith in get_drop a ys i ∙ ap (slice_get (y ∷ ys)) z

  -- the same values, by two functions
  pub map_ranges : (f g : ℕ → X) (a b n : ℕ) → ((k : ℕ) → k < n → f (a + k) ≡ g (b + k)) → map f (range_with_len a n) ≡ map g (range_with_len b n)
  map_ranges f g a b zero same = refl
  map_ranges f g a b (suc n) same =
      let p : a ≡ a + 0 = omega arith in let q : b + 0 ≡ b = omega arith in
      let here : f a ≡ g b = ap f p ∙ (same 0 (omega arith) ∙ ap g q) in
      let rest : map f (range_with_len (a + 1) n) ≡ map g (range_with_len (b + 1) n) = map_ranges f g (a + 1) (b + 1) n
      (λ k h. let u : a + 1 + k ≡ a + suc k = omega arith in let v : b + suc k ≡ b + 1 + k = omega arith in ap f u ∙ (same (suc k) (omega arith) ∙ ap g v)) in
      ap (λ (x : X). x ∷ map f (range_with_len (a + 1) n)) here ∙ ap (λ (l : List X). g b ∷ l) rest

  pub get_range : (f : ℕ → X) (n i : ℕ) (d : X) → i < n → slice_get (map f (range_with_len 0 n)) i ≡ Some (f i)
  get_range f n i d h =
      slice_get-get_or (map f (range_with_len 0 n)) i d (omega (arith, length-map-range_with_len f 0 n))
      ∙ ap Some (get_or-map-range_with_len f 0 n i i d h (omega arith))

  -- one list more behind the others
  pub flat_map_more : (part : ℕ → List X) (a n : ℕ) → flat_map part (range_with_len a (n + 1)) ≡ flat_map part (range_with_len a n) ++ part (a + n)
  flat_map_more part a zero = let z : a ≡ a + 0 = omega arith in append-nil (part a) ∙ ap part z
  flat_map_more part a (suc n) =
      let z : a + 1 + n ≡ a + suc n = omega arith in
      let e : suc n + 1 ≡ suc (n + 1) = omega arith in
      ap (λ (m : ℕ). flat_map part (range_with_len a m)) e
      ∙ (ap (λ (l : List X). part a ++ l) (flat_map_more part (a + 1) n ∙ ap (λ (m : ℕ). flat_map part (range_with_len (a + 1) n) ++ part m) z)
      ∙ sym (append_assoc (part a) (flat_map part (range_with_len (a + 1) n)) (part (a + suc n))))
