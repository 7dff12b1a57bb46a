-- Joins of lists, of their beginnings, and of lists one behind the other.
use Rattle.std.proofs.Common.{◌≡◌, ℕ, zero, suc, ◌+◌, ◌<◌, ◌≤◌, List, [], ◌∷◌, ◌++◌, length, get_or, take, map, All, fold, Some, slice_get, sym, ap, ◌∙◌, subst, arith, add-one}
use Rattle.std.specs.List.{range_with_len}
use Rattle.std.proofs.lemmas.List.Sums.{fold_push, fold-append, fold_more}
use Rattle.std.proofs.lemmas.List.FromFn.{length-map-range_with_len, get_or-map-range_with_len}
use Rattle.std.proofs.lemmas.Option.{slice_get-get_or, get_or_from_slice_get}
use Rattle.word_monoid.specs.Monoid.{Ops, IsItem, IsMonoid}
use Rattle.word_monoid.specs.Folds.{fold_of, prefix_of, prefixes}

module _ {X : Type 0} where
  pub get_below : (xs : List X) (i : ℕ) (x : X) → slice_get xs i ≡ Some x → i < length xs
  get_below [] i x h = absurd cc
  get_below (y ∷ ys) zero x h = omega arith
  get_below (y ∷ ys) (suc i) x h = let r = get_below ys i x h in omega arith

  pub get_at : (xs : List X) (i : ℕ) (x : X) → slice_get xs i ≡ Some x → get_or xs i x ≡ x
  get_at xs i x h = get_or_from_slice_get xs i x x h

  pub all_rest : (P : X → Type 0) (x : X) (xs : List X) → All P (x ∷ xs) → All P xs
  all_rest P x xs all k d h = all (suc k) d (omega arith)

  pub all_first : (P : X → Type 0) (x : X) (xs : List X) → All P (x ∷ xs) → P x
  all_first P x xs all = all 0 x (omega arith)

  pub all_at : (P : X → Type 0) (xs : List X) (i : ℕ) (x : X) → All P xs → slice_get xs i ≡ Some x → P x
  all_at P xs i x all h = subst P (get_at xs i x h) (all i x (get_below xs i x h))

  pub range-append : (f : ℕ → X) (from m n : ℕ) → map f (range_with_len from m) ++ map f (range_with_len (from + m) n) ≡ map f (range_with_len from (m + n))
  range-append f from zero n = let z : from + 0 ≡ from = omega arith in let y : n ≡ 0 + n = omega arith in ap (λ (k : ℕ). map f (range_with_len k n)) z ∙ ap (λ (k : ℕ). map f (range_with_len from k)) y
  range-append f from (suc m) n =
      let z : from + suc m ≡ from + 1 + m = omega arith in
      let y : suc (m + n) ≡ suc m + n = omega arith in
      ap (λ (l : List X). f from ∷ l) (ap (λ (k : ℕ). map f (range_with_len (from + 1) m) ++ map f (range_with_len k n)) z ∙ range-append f (from + 1) m n)
      ∙ ap (λ (k : ℕ). map f (range_with_len from k)) y

module _ {T : Type 0} (ops : Ops T) where
  pub fold_last : (xs : List T) (x : T) → fold_of ops (xs ++ x ∷ []) ≡ ops.join (fold_of ops xs) x
  fold_last xs x = fold_push ops.join ops.unit xs x

  pub prefix_next : (xs : List T) (i : ℕ) (x : T) → slice_get xs i ≡ Some x → prefix_of ops xs (i + 1) ≡ ops.join (prefix_of ops xs i) x
  prefix_next xs i x at = fold_more ops.join ops.unit xs i x (get_below xs i x at) ∙ ap (ops.join (prefix_of ops xs i)) (get_at xs i x at)

  pub length-prefixes : (xs : List T) → length (prefixes ops xs) ≡ length xs + 1
  length-prefixes xs = length-map-range_with_len (prefix_of ops xs) 0 (suc (length xs)) ∙ sym (add-one (length xs))

  pub prefixes_at : (xs : List T) (i : ℕ) → i ≤ length xs → slice_get (prefixes ops xs) i ≡ Some (prefix_of ops xs i)
  prefixes_at xs i h =
      slice_get-get_or (prefixes ops xs) i ops.unit (omega (arith, length-prefixes xs))
      ∙ ap Some (get_or-map-range_with_len (prefix_of ops xs) 0 (suc (length xs)) i i ops.unit (omega arith) (omega arith))

  all_take : (xs : List T) (i : ℕ) → All (IsItem ops) xs → All (IsItem ops) (take i xs)
  all_take xs zero all k d h = absurd (omega arith)
  all_take [] (suc i) all k d h = absurd (omega arith)
  all_take (x ∷ xs) (suc i) all zero d h = all_first (IsItem ops) x xs all
  all_take (x ∷ xs) (suc i) all (suc k) d h = all_take xs i (all_rest (IsItem ops) x xs all) k d (omega arith)

  module _ (laws : IsMonoid ops) where
    fold_item : (xs : List T) (a : T) → IsItem ops a → All (IsItem ops) xs → IsItem ops (fold ops.join a xs)
    fold_item [] a p all = p
    fold_item (x ∷ xs) a p all = fold_item xs (ops.join a x) (laws.join_is_item a x p (all_first (IsItem ops) x xs all)) (all_rest (IsItem ops) x xs all)

    pub fold_of-item : (xs : List T) → All (IsItem ops) xs → IsItem ops (fold_of ops xs)
    fold_of-item xs all = fold_item xs ops.unit laws.unit_is_item all

    pub prefix_item : (xs : List T) (i : ℕ) → All (IsItem ops) xs → IsItem ops (prefix_of ops xs i)
    prefix_item xs i all = fold_of-item (take i xs) (all_take xs i all)

    pub fold_from : (xs : List T) (a : T) → IsItem ops a → All (IsItem ops) xs → fold ops.join a xs ≡ ops.join a (fold_of ops xs)
    fold_from [] a p all = sym (laws.unit_right a p)
    fold_from (x ∷ xs) a p all =
        let q = all_first (IsItem ops) x xs all in let rest = all_rest (IsItem ops) x xs all in
        let first : ops.join ops.unit x ≡ x = laws.unit_left x q in
        fold_from xs (ops.join a x) (laws.join_is_item a x p q) rest
        ∙ (laws.associative a x (fold_of ops xs) p q (fold_of-item xs rest)
        ∙ ap (ops.join a) (sym (fold_from xs x q rest) ∙ ap (λ (y : T). fold ops.join y xs) (sym first)))

    -- the join of two lists one behind the other
    pub fold_append : (xs ys : List T) → All (IsItem ops) xs → All (IsItem ops) ys → fold_of ops (xs ++ ys) ≡ ops.join (fold_of ops xs) (fold_of ops ys)
    fold_append xs ys p q = fold-append ops.join ops.unit xs ys ∙ fold_from ys (fold_of ops xs) (fold_of-item xs p) q
