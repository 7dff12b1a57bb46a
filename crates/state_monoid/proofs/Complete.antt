-- What the search has found is all that words make.
use Rattle.std.proofs.Common.{◌≡◌, ℕ, ◌<◌, List, [], ◌∷◌, length, get_or, map, All, Some, slice_get, refl, sym, ap, ◌∙◌, arith}
use Rattle.std.specs.Prelude.{nat_eq, slice_index, slice_index_or, Contains}
use Rattle.std.specs.List.{IsDistinct}
use Rattle.std.specs.Cmp.Lexicographic.{pointwise}
use Rattle.std.proofs.lemmas.List.{get_or-map, length-map}
use Rattle.word_monoid.specs.Laws.Folds.{get_below, all_at, all_first, all_rest}
use Rattle.state_monoid.specs.Automaton.{Automaton, IsWord}
use Rattle.state_monoid.specs.Image.{compose, image, IsReached, IsNumbering}
use Rattle.state_monoid.specs.declared.explore.Origin.{Origin}
use Rattle.state_monoid.specs.Letters.{AreLetters}
use Rattle.state_monoid.specs.Explored.{AreExplored, IsRow, AreRows, AreJoined, AreTables}
use Rattle.state_monoid.specs.Places.{value_get, get_value}
use Rattle.state_monoid.specs.Words.{image_append}
use Rattle.state_monoid.specs.Reached.{reached_assoc, reached_identity, identity_reached}
use Rattle.state_monoid.proofs.Searching.{distinct_functions}
use Rattle.state_monoid.specs.Laws.Prefixes.{one_byte}

module _ (d : Automaton) (letters fs : List (List ℕ)) (os : List Origin) (rows : List (List ℕ)) (of_byte : List ℕ)
    (ls : AreLetters d 256 letters of_byte) (so : AreExplored d letters fs os) (rs : AreRows letters fs rows) (all : length rows ≡ length fs) where
  -- the function that a byte more makes is there
  pub next_byte : (c : ℕ) (f : List ℕ) (b : ℕ) → b < 256 → slice_get fs c ≡ Some f
      → slice_get fs (slice_index (slice_index_or rows c []) (slice_index of_byte b)) ≡ Some (compose f (image d (b ∷ [])))
  next_byte c f b h at =
      let g : ℕ = slice_index of_byte b in
      let letter : slice_get letters g ≡ Some (image d (b ∷ [])) = ls.each_byte b h in
      let g_small : g < length letters = get_below letters g (image d (b ∷ [])) letter in
      let inside : c < length rows = (let below = get_below fs c f at in omega arith) in
      let row : IsRow letters fs (slice_index_or fs c []) (slice_index_or rows c []) (length letters) = rs c (slice_index_or rows c []) (value_get rows c [] inside) in
      row.each_letter g g_small ∙ (λ i. Some (compose (get_value fs c f [] at i) (get_value letters g (image d (b ∷ [])) [] letter i)))

  word_after : (word : List ℕ) → IsWord word → (c : ℕ) (f : List ℕ) → slice_get fs c ≡ Some f → (k : ℕ) × (slice_get fs k ≡ Some (compose f (image d word)))
  word_after [] w c f at = (c, at ∙ ap Some (sym (reached_identity d ls.valid f (all_at (IsReached d) fs c f so.reached at))))
  word_after (b ∷ word) w c f at =
      let byte : b < 256 = all_first (λ b. b < 256) b word w in
      let fr : IsReached d f = all_at (IsReached d) fs c f so.reached at in
      let gr : IsReached d (image d (b ∷ [])) = (b ∷ [], one_byte b byte, refl) in
      let rest = word_after word (all_rest (λ b. b < 256) b word w) (slice_index (slice_index_or rows c []) (slice_index of_byte b)) (compose f (image d (b ∷ []))) (next_byte c f b byte at) in (
        rest.0,
        rest.1 ∙ ap Some (reached_assoc d ls.valid f (image d (b ∷ [])) (image d word) fr gr ∙ ap (compose f) (sym (image_append d ls.valid (b ∷ []) word (one_byte b byte)))),
      )

  there : (word : List ℕ) → IsWord word → Contains fs (image d word)
  there word w =
      let found = word_after word w 0 (image d []) so.first in
      let at : slice_get fs found.0 ≡ Some (image d word) = found.1 ∙ ap Some (identity_reached d ls.valid (image d word) (word, w, refl)) in
      (found.0, get_below fs found.0 (image d word) at, get_value fs found.0 (image d word) (image d word) at)

  pub all_numbered : IsDistinct (pointwise nat_eq) fs → IsNumbering d fs
  all_numbered apart = record {
    distinct = distinct_functions fs apart;
    reached = so.reached;
    complete = there;
  }

  pub byte_numbers : (bytes joins : List ℕ) → bytes ≡ map (slice_index (slice_index_or rows 0 [])) of_byte → AreJoined fs (length fs) joins → AreTables d fs bytes joins
  byte_numbers bytes joins is joined = record {
    identity = so.first;
    one_for_each = ap (λ (l : List ℕ). length l) is ∙ (length-map of_byte (slice_index (slice_index_or rows 0 [])) ∙ ls.one_for_each);
    each_byte = λ b h.
        let at : slice_index bytes b ≡ slice_index (slice_index_or rows 0 []) (slice_index of_byte b) =
        ap (λ (l : List ℕ). slice_index l b) is ∙ get_or-map (slice_index (slice_index_or rows 0 [])) of_byte b 0 0 (let len = ls.one_for_each in omega arith) in
        ap (slice_get fs) at ∙ (next_byte 0 (image d []) b h so.first ∙ ap Some (identity_reached d ls.valid (image d (b ∷ [])) (b ∷ [], one_byte b h, refl)));
    joined = joined;
  }

  pub letters_below : All (λ g. g < length (slice_index_or rows 0 [])) of_byte
  letters_below k e h =
      let byte : k < 256 = (let len = ls.one_for_each in omega arith) in
      let at : slice_index of_byte k < length letters = get_below letters (slice_index of_byte k) (image d (k ∷ [])) (ls.each_byte k byte) in
      let inside : 0 < length rows = (let below = get_below fs 0 (image d []) so.first in omega arith) in
      let row = (rs 0 (slice_index_or rows 0 []) (value_get rows 0 [] inside)).one_for_each in
      let same : get_or of_byte k e ≡ slice_index of_byte k = get_value of_byte k (slice_index of_byte k) e (value_get of_byte k 0 h) in
      omega (arith, at, row, same)
