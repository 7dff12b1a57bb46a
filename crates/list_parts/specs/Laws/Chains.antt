-- Parts that lie one behind the other.
use Rattle.std.proofs.Common.{◌≡◌, ◌⊎◌, ℕ, zero, suc, ◌+◌, ◌*◌, ◌<◌, ◌≤◌, ◌^◌, List, [], ◌∷◌, ◌++◌, length, take, drop, flat_map, Some, slice_get, refl, sym, ap, ◌∙◌, inl, inr, ⊎_elim, arith, length-append, suc-mul, zero-mul}
use Rattle.std.proofs.lemmas.Grind.{flat_map-append}
use Rattle.std.proofs.lemmas.List.{append-nil, append_assoc, drop-drop, length-drop, take_all, take-append-drop}
use Rattle.std.proofs.lemmas.Option.{none-some}
use denote.RawPtr.{Ptr, block_ptr, null_ptr, ◌+ₚ◌}
use Rattle.core.proofs.ptr.Rows.{times_below, add_times}
use Rattle.chunk_seats.specs.Chunks.{chunk_of}
use Rattle.list_parts.specs.declared.part.Part.{Part}
use Rattle.list_parts.specs.Parts.{part_items, part_start, Follows, Fits, Chain}

pub fits_less : (s m n : ℕ) → m ≤ n → Fits s n → Fits s m
fits_less s m n le f = record { count = let small = f.count in omega arith; bytes = times_below m n s (2 ^ 63) le f.bytes }

some_is : {A : Type 0} (x y : A) → Some x ≡ Some y → x ≡ y
some_is x y e = cc

pub get_snoc : {A : Type 0} (xs : List A) (a : A) (c : ℕ) (x : A) → slice_get (xs ++ a ∷ []) c ≡ Some x → (slice_get xs c ≡ Some x) ⊎ ((c ≡ length xs) × (a ≡ x))
get_snoc [] a zero x e = inr (refl, some_is a x e)
get_snoc [] a (suc c) x e = absurd (none-some x e)
get_snoc (y ∷ xs) a zero x e = inl e
get_snoc (y ∷ xs) a (suc c) x e = ⊎_elim (λ (h : slice_get xs c ≡ Some x). inl h) (λ (h : (c ≡ length xs) × (a ≡ x)). inr (ap suc h.0, h.1)) (get_snoc xs a c x e)

module _ {X : Type 0} (s : ℕ) where
  abbrev behind : Ptr → Part X → Ptr
  behind p x = p +ₚ length (part_items x) * s

  -- the last part is cut in two
  pub cut_chain : (p : Ptr) (xs : List (Part X)) (r a b : Part X) → part_start a ≡ part_start r → Follows s a b → Chain s p (xs ++ r ∷ []) → Chain s p ((xs ++ a ∷ []) ++ b ∷ [])
  cut_chain p [] r a b same f h = (same ∙ h.0, (f.start ∙ ap (λ (q : Ptr). behind q a) (same ∙ h.0), tt))
  cut_chain p (x ∷ xs) r a b same f h = (h.0, cut_chain (behind p x) xs r a b same f h.1)

  -- the last two are neighbours
  pub last_follows : (p : Ptr) (xs : List (Part X)) (a b : Part X) → Chain s p ((xs ++ a ∷ []) ++ b ∷ []) → Follows s a b
  last_follows p [] a b h = record { start = h.1.0 ∙ ap (λ (q : Ptr). behind q a) (sym h.0) }
  last_follows p (x ∷ xs) a b h = last_follows (behind p x) xs a b h.1

  -- the last two are glued
  pub glue_chain : (p : Ptr) (xs : List (Part X)) (a b g : Part X) → part_start g ≡ part_start a → Chain s p ((xs ++ a ∷ []) ++ b ∷ []) → Chain s p (xs ++ g ∷ [])
  glue_chain p [] a b g same h = (same ∙ h.0, tt)
  glue_chain p (x ∷ xs) a b g same h = (h.0, glue_chain (behind p x) xs a b g same h.1)

-- the items of all, where one is behind the others
pub items_snoc : {X : Type 0} (xs : List (Part X)) (a : Part X) → flat_map part_items (xs ++ a ∷ []) ≡ flat_map part_items xs ++ part_items a
items_snoc xs a = flat_map-append part_items xs (a ∷ []) ∙ ap (λ l. flat_map part_items xs ++ l) (append-nil (part_items a))

pub items_glued : {X : Type 0} (xs : List (Part X)) (a b g : Part X) → part_items g ≡ part_items a ++ part_items b → flat_map part_items ((xs ++ a ∷ []) ++ b ∷ []) ≡ flat_map part_items (xs ++ g ∷ [])
items_glued xs a b g e = items_snoc (xs ++ a ∷ []) b ∙ ap (λ l. l ++ part_items b) (items_snoc xs a) ∙ append_assoc (flat_map part_items xs) (part_items a) (part_items b) ∙ ap (λ l. flat_map part_items xs ++ l) (sym e) ∙ sym (items_snoc xs g)

more_times : (k n s : ℕ) → n ≡ k + 1 → n * s ≡ k * s + s
more_times k n s e = let is : n ≡ suc k = omega arith in ap (λ j. j * s) is ∙ suc-mul k s

-- the first of what is left behind k chunks, and what is left behind it
module _ {X : Type 0} (size k : ℕ) (all rest : List X) (is : rest ≡ drop (k * size) all) where
  pub next_chunk : (a : List X) → a ≡ take size rest → a ≡ chunk_of size all k
  next_chunk a e = e ∙ ap (take size) is

  pub next_rest : (b : List X) (n : ℕ) → n ≡ k + 1 → b ≡ drop size rest → b ≡ drop (n * size) all
  next_rest b n more e = e ∙ ap (drop size) is ∙ drop-drop size (k * size) all ∙ ap (λ j. drop j all) (sym (more_times k n size more))

  pub last_chunk : (count : ℕ) → count ≡ k + 1 → length all ≤ count * size → rest ≡ chunk_of size all k
  last_chunk count more le =
      let long = length-drop (k * size) all in let t = more_times k count size more in
      is ∙ sym (take_all size (drop (k * size) all) (omega arith))

-- that many of the first parts have this many values together
abbrev pub total : {X : Type 0} → ℕ → List (Part X) → ℕ
total k xs = length (flat_map part_items (take k xs))

plus_plus : (p : Ptr) (a b : ℕ) → (p +ₚ a) +ₚ b ≡ p +ₚ (a + b)
plus_plus (block_ptr b o) m n = ap (block_ptr b) (let e : o + m + n ≡ o + (m + n) = omega arith in e)
plus_plus null_ptr m n = refl

plus_none : (p : Ptr) (n : ℕ) → n ≡ 0 → p +ₚ n ≡ p
plus_none (block_ptr b o) n e = ap (block_ptr b) (omega arith)
plus_none null_ptr n e = refl

pub chain_at : {X : Type 0} (s : ℕ) (p : Ptr) (xs : List (Part X)) (k : ℕ) (x : Part X) → Chain s p xs → slice_get xs k ≡ Some x → part_start x ≡ p +ₚ total k xs * s
chain_at s p [] k x h e = absurd (none-some x e)
chain_at s p (y ∷ ys) zero x h e = ap part_start (sym (some_is y x e)) ∙ h.0 ∙ sym (plus_none p (0 * s) (zero-mul s))
chain_at s p (y ∷ ys) (suc k) x h e =
    let n = length (part_items y) in let m = total k ys in let long : length (part_items y ++ flat_map part_items (take k ys)) ≡ n + m = length-append (part_items y) (flat_map part_items (take k ys)) in
    chain_at s (p +ₚ n * s) ys k x h.1 e ∙ plus_plus p (n * s) (m * s) ∙ ap (λ j. p +ₚ j) (sym (ap (λ j. j * s) long ∙ add_times n m s))

pub total_next : {X : Type 0} (xs : List (Part X)) (k : ℕ) (x : Part X) → slice_get xs k ≡ Some x → total (suc k) xs ≡ total k xs + length (part_items x)
total_next [] k x e = absurd (none-some x e)
total_next (y ∷ ys) zero x e = let long = length-append (part_items y) [] in let same = ap (λ z. length (part_items z)) (some_is y x e) in omega (arith, long, same)
total_next (y ∷ ys) (suc k) x e =
    let a = length-append (part_items y) (flat_map part_items (take (suc k) ys)) in let b = length-append (part_items y) (flat_map part_items (take k ys)) in let rec = total_next ys k x e in omega (arith, a, b, rec)

pub total_most : {X : Type 0} (xs : List (Part X)) (k : ℕ) → total k xs ≤ length (flat_map part_items xs)
total_most xs k =
    let whole = ap (λ l. length (flat_map part_items l)) (take-append-drop k xs) in let cut = ap length (flat_map-append part_items (take k xs) (drop k xs)) in
    let long = length-append (flat_map part_items (take k xs)) (flat_map part_items (drop k xs)) in omega (arith, whole, cut, long)

pub get_below : {A : Type 0} (xs : List A) (k : ℕ) → k < length xs → (x : A) × (slice_get xs k ≡ Some x)
get_below [] k h = absurd (omega arith)
get_below (x ∷ xs) zero h = (x, refl)
get_below (x ∷ xs) (suc k) h = get_below xs k (omega arith)

pub chain_first : {X : Type 0} (s : ℕ) (p : Ptr) (xs : List (Part X)) (x : Part X) → Chain s p xs → slice_get xs 0 ≡ Some x → part_start x ≡ p
chain_first s p [] x h e = absurd (none-some x e)
chain_first s p (y ∷ ys) x h e = ap part_start (sym (some_is y x e)) ∙ h.0
