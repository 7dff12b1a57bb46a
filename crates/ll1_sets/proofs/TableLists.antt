-- The columns of an LL(1) table, one terminal after the other.
use Rattle.std.proofs.Common.{◌≡◌, ℕ, zero, suc, ◌⊎◌, inl, inr, ⊎_elim, List, [], ◌∷◌, ◌++◌, length, Some, slice_get, refl, sym, ap, ◌∙◌, subst}
use Rattle.std.proofs.lemmas.Option.{none-some, same_Some}
use Rattle.grammar_file.specs.Grammar.{Grammar}
use Rattle.ll1_sets.specs.Table.{Column, IsColumn}

get_snoc : {A : Type 0} (xs : List A) (a : A) (c : ℕ) (x : A) → slice_get (xs ++ a ∷ []) c ≡ Some x → (slice_get xs c ≡ Some x) ⊎ ((c ≡ length xs) × (a ≡ x))
get_snoc [] a zero x e = inr (refl, same_Some a x e)
get_snoc [] a (suc c) x e = absurd (none-some x e)
get_snoc (y ∷ xs) a zero x e = inl e
get_snoc (y ∷ xs) a (suc c) x e = ⊎_elim (λ (h : slice_get xs c ≡ Some x). inl h) (λ (h : (c ≡ length xs) × (a ≡ x)). inr (ap suc h.0, h.1)) (get_snoc xs a c x e)

pub column_more : (g : Grammar) (columns : List Column) (n : ℕ) (next : Column) → length columns ≡ n → ((b : ℕ) (column : Column) → slice_get columns b ≡ Some column → IsColumn g b column) → IsColumn g n next
    → (b : ℕ) (column : Column) → slice_get (columns ++ next ∷ []) b ≡ Some column → IsColumn g b column
column_more g columns n next len before here b column is = go (get_snoc columns next b column is)
  where
    go : (slice_get columns b ≡ Some column) ⊎ ((b ≡ length columns) × (next ≡ column)) → IsColumn g b column
    go (inl h) = before b column h
    go (inr h) = subst (λ m. IsColumn g m column) (sym (h.0 ∙ len)) (subst (IsColumn g n) h.1 here)
