-- Items of lists by their places, and a list that a new item is put behind.
use Rattle.std.proofs.Common.{◌≡◌, ◌⊎◌, ℕ, zero, suc, ◌+◌, ◌*◌, ◌<◌, ◌≤◌, Bool, true, false, List, [], ◌∷◌, ◌++◌, length, get_or, All, Some, slice_get, refl, sym, ap, ◌∙◌, arith, inl, inr}
use Rattle.std.specs.Prelude.{nat_eq, if◌then◌else◌}
use Rattle.std.specs.List.{list_any}
use Rattle.std.proofs.Math.Nat.{mul-le-mul_right}
use Rattle.std.specs.Cmp.Lexicographic.{pointwise, bytes_decides}
use Rattle.std.proofs.lemmas.List.Elements.{All-append}
use Rattle.std.proofs.lemmas.Option.{slice_get-get_or, get_or_from_slice_get}
use Rattle.indexmap.specs.IndexSet.{insert_key}

pub equal_lists : (xs ys : List ℕ) → pointwise nat_eq xs ys ≡ true → xs ≡ ys
equal_lists xs ys h = (bytes_decides xs ys).0 h

module _ {X : Type 0} where
  pub get_append : (xs ys : List X) (i : ℕ) (x : X) → slice_get xs i ≡ Some x → slice_get (xs ++ ys) i ≡ Some x
  get_append [] ys i x h = absurd cc
  get_append (y ∷ xs) ys zero x h = h
  get_append (y ∷ xs) ys (suc i) x h = get_append xs ys i x h

  pub get_last : (xs : List X) (x : X) → slice_get (xs ++ x ∷ []) (length xs) ≡ Some x
  get_last [] x = refl
  get_last (y ∷ xs) x = get_last xs x

  pub get_pushed : (xs : List X) (y : X) (i : ℕ) (x : X) → slice_get (xs ++ y ∷ []) i ≡ Some x → (slice_get xs i ≡ Some x) ⊎ ((i ≡ length xs) × (y ≡ x))
  get_pushed [] y zero x h = inr (refl, cc)
  get_pushed [] y (suc i) x h = absurd cc
  get_pushed (z ∷ xs) y zero x h = inl h
  get_pushed (z ∷ xs) y (suc i) x h =
      elim (get_pushed xs y i x h) [ inl e ↦ inl e | inr e ↦ inr (ap suc e.0, e.1) ]

  pub all_pushed : (P : X → Type 0) (xs : List X) (x : X) → All P xs → P x → All P (xs ++ x ∷ [])
  all_pushed P xs x all p = All-append P xs (x ∷ []) all (λ k d h. one k d h)
    where
      one : (k : ℕ) (d : X) → k < length (x ∷ []) → P (get_or (x ∷ []) k d)
      one zero d h = p
      one (suc k) d h = absurd (omega arith)

  pub length_pushed : (xs : List X) (x : X) → length (xs ++ x ∷ []) ≡ length xs + 1
  length_pushed [] x = refl
  length_pushed (y ∷ xs) x = let r = length_pushed xs x in omega arith

  pub pushed_below : (xs : List X) (x d : X) (i : ℕ) → i < length xs → get_or (xs ++ x ∷ []) i d ≡ get_or xs i d
  pushed_below [] x d i h = absurd (omega arith)
  pushed_below (y ∷ xs) x d zero h = refl
  pushed_below (y ∷ xs) x d (suc i) h = pushed_below xs x d i (omega arith)

  pub pushed_last : (xs : List X) (x d : X) (i : ℕ) → i ≡ length xs → get_or (xs ++ x ∷ []) i d ≡ x
  pushed_last xs x d i e = ap (λ (k : ℕ). get_or (xs ++ x ∷ []) k d) e ∙ at xs
    where
      at : (ys : List X) → get_or (ys ++ x ∷ []) (length ys) d ≡ x
      at [] = refl
      at (y ∷ ys) = at ys

  pub value_get : (xs : List X) (i : ℕ) (d : X) → i < length xs → slice_get xs i ≡ Some (get_or xs i d)
  value_get xs i d h = slice_get-get_or xs i d h

  pub get_value : (xs : List X) (i : ℕ) (x d : X) → slice_get xs i ≡ Some x → get_or xs i d ≡ x
  get_value xs i x d h = get_or_from_slice_get xs i x d h

  either : (P : List X → Type 0) (b : Bool) (xs ys : List X) → P xs → P ys → P (if b then xs else ys)
  either P true xs ys p q = p
  either P false xs ys p q = q

  -- what holds of a list, and with the new item behind it
  pub inserted : (eq : X → X → Bool) (P : List X → Type 0) (xs : List X) (x : X) → P xs → P (xs ++ x ∷ []) → P (insert_key eq xs x)
  inserted eq P xs x p q = either P (list_any (eq x) xs) xs (xs ++ x ∷ []) p q

  -- an item that is read at a place
  pub item_at : (xs ys : List X) (i : ℕ) (r : X) → r ≡ get_or ys i r → ys ≡ xs → i < length xs → slice_get xs i ≡ Some r
  item_at xs ys i r is same h = value_get xs i r h ∙ ap Some (sym (is ∙ ap (λ (l : List X). get_or l i r) same))

  pub some_inj : (a b : X) → Some a ≡ Some b → a ≡ b
  some_inj a b h = cc

  pub no_item : (c : ℕ) (x : X) → slice_get [] c ≡ Some x → ⊥
  no_item zero x h = cc
  no_item (suc c) x h = cc

  pub read_is : (xs : List X) (i : ℕ) (r d : X) → r ≡ get_or xs i r → i < length xs → get_or xs i d ≡ r
  read_is xs i r d is h = get_value xs i r d (item_at xs xs i r is refl h)

pub pair_below : (n a b : ℕ) → a < n → b < n → b * n + a < n * n
pair_below n a b h k =
    let next : b + 1 ≤ n = omega arith in
    let product : (b + 1) * n ≤ n * n = mul-le-mul_right n next in
    omega (arith, product)
