-- Numbers that are chosen, one by one.
use Rattle.std.proofs.Common.{◌≡◌, ℕ, zero, suc, ◌+◌, ◌<◌, Bool, false, cond, All, List, [], ◌∷◌, ◌++◌, length, get_or, slice_get, Option, Some, None, map, filter, refl, sym, ap, ◌∙◌, subst}
use Rattle.std.specs.List.{range_with_len}
use Rattle.std.proofs.lemmas.List.{length-map}
use Rattle.std.proofs.lemmas.List.Elements.{filter-append}
use Rattle.std.proofs.lemmas.List.FromFn.{fill_by_all}
use Rattle.std.proofs.lemmas.Option.{slice_get-get_or}
use Rattle.par_passes.specs.Passes.{GaveAt, marked}
use Rattle.par_passes.specs.Laws.Calling.{marked_by}
use Rattle.par_passes.specs.Laws.Giving.{all_numbers}
use Rattle.par_passes.specs.Laws.Marking.{range_next}

-- one number more
pub choose_more : (h : ℕ → Bool) (a n : ℕ) (out next : List ℕ) (b : Bool) → out ≡ filter h (range_with_len a n) → b ≡ h (a + n) → next ≡ out ++ cond b ((a + n) ∷ []) [] → next ≡ filter h (range_with_len a (n + 1))
choose_more h a n out next b so_far told is =
    is
    ∙ ((λ i. so_far i ++ cond (told i) ((a + n) ∷ []) [])
    ∙ sym (ap (filter h) (range_next a n) ∙ filter-append h (range_with_len a n) ((a + n) ∷ [])))

module _ {T : Type 0} (post : T → Bool → Type 0) (items : List T) (h : T → Bool) where
  abbrev said_of : Option T → Bool
  said_of None = false
  said_of (Some x) = h x

  -- what is said of the item of a number
  abbrev said : ℕ → Bool
  said k = said_of (slice_get items k)

  says : All (λ x. (r : Bool) → post x r → r ≡ h x) items → (k : ℕ) → k < length items → (r : Bool) → GaveAt post items k r → r ≡ said k
  says computes k less r gave =
      let x = gave.0 in
      let same : get_or items k x ≡ x = (let e = slice_get-get_or items k x less in let f = gave.1 in cc) in
      subst (λ (y : T). (b : Bool) → post y b → b ≡ h y) same (computes k x less) r gave.2 ∙ sym (ap said_of gave.1)

  by_place : (xs : List T) (k : ℕ) → get_or (map h xs) k false ≡ said_of (slice_get xs k)
  by_place [] k = refl
  by_place (x ∷ xs) zero = refl
  by_place (x ∷ xs) (suc k) = by_place xs k

  -- numbers that are chosen by the items are the places of the items
  pub chosen_places : All (λ x. (r : Bool) → post x r → r ≡ h x) items → (found : List ℕ)
      → ((g : ℕ → Bool) → All (λ k. (r : Bool) → GaveAt post items k r → r ≡ g k) (range_with_len 0 (length items)) → found ≡ filter g (range_with_len 0 (length items)))
      → found ≡ marked (range_with_len 0 (length items)) (map h items)
  chosen_places computes found chosen =
      let places = range_with_len 0 (length items) in
      let marks : map h items ≡ map said places = fill_by_all said (map h items) (length items) false (length-map items h) (λ k less. by_place items k) in
      chosen said (all_numbers (λ k. (r : Bool) → GaveAt post items k r → r ≡ said k) (length items) (says computes))
      ∙ (sym (marked_by said places) ∙ ap (marked places) (sym marks))
