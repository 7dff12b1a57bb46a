-- The steps of the search over the functions of an automaton.
use Rattle.std.proofs.Common.{◌≡◌, ℕ, ◌+◌, ◌<◌, ◌≤◌, true, List, [], ◌∷◌, ◌++◌, length, All, Some, slice_get, sym, ap, subst, ◌∙◌, arith, ⊎_elim}
use Rattle.std.specs.Prelude.{nat_eq, slice_index}
use Rattle.std.specs.Cmp.Lexicographic.{pointwise}
use Rattle.std.proofs.lemmas.Bool.{cases_lt}
use Rattle.indexmap.specs.IndexSet.{insert_key}
use Rattle.state_monoid.specs.Automaton.{Automaton}
use Rattle.state_monoid.specs.Image.{image}
use Rattle.state_monoid.specs.Letters.{IsLetter, AreLetters}
use Rattle.state_monoid.specs.Places.{equal_lists, get_append, all_pushed, length_pushed, pushed_below, pushed_last, inserted}

pub letters_step : (d : Automaton) (n : ℕ) (letters : List (List ℕ)) (of_byte : List ℕ) (new : List (List ℕ)) (r : ℕ) (f k : List ℕ)
    → AreLetters d n letters of_byte → n < 256 → f ≡ image d (n ∷ []) → new ≡ insert_key (pointwise nat_eq) letters f
    → slice_get new r ≡ Some k → pointwise nat_eq f k ≡ true → AreLetters d (n + 1) new (of_byte ++ r ∷ [])
letters_step d n letters of_byte new r f k a small is made at same =
    let stays : (c : ℕ) (g : List ℕ) → slice_get letters c ≡ Some g → slice_get new c ≡ Some g =
    λ c g h. subst (λ (l : List (List ℕ)). slice_get l c ≡ Some g) (sym made)
    (inserted (pointwise nat_eq) (λ l. slice_get l c ≡ Some g) letters f h (get_append letters (f ∷ []) c g h)) in
    record {
      valid = a.valid;
      some_byte = subst (All (IsLetter d)) (sym made) (inserted (pointwise nat_eq) (All (IsLetter d)) letters f a.some_byte (all_pushed (IsLetter d) letters f a.some_byte (n, small, sym is)));
      few = subst (λ (l : List (List ℕ)). length l ≤ n + 1) (sym made)
          (inserted (pointwise nat_eq) (λ l. length l ≤ n + 1) letters f (let few = a.few in omega arith) (let len = length_pushed letters f in let few = a.few in omega arith));
      one_for_each = length_pushed of_byte r ∙ (let len = a.one_for_each in omega arith);
      each_byte = λ b h. ⊎_elim
          (λ (below : b < n). ap (slice_get new) (pushed_below of_byte r 0 b (let len = a.one_for_each in omega arith)) ∙ stays (slice_index of_byte b) (image d (b ∷ [])) (a.each_byte b below))
          (λ (above : n ≤ b).
          let here : b ≡ n = omega arith in
          ap (slice_get new) (pushed_last of_byte r 0 b (let len = a.one_for_each in omega arith))
          ∙ (at ∙ ap Some (sym (equal_lists f k same) ∙ (is ∙ ap (λ (c : ℕ). image d (c ∷ [])) (sym here)))))
          (cases_lt b n);
    }
