-- The parts that are cut off so far, and the rest.
use Rattle.std.proofs.Common.{◌≡◌, ℕ, suc, ◌+◌, ◌<◌, ◌≤◌, List, [], ◌∷◌, ◌++◌, length, take, drop, map, flat_map, sym, ap, subst, ◌∙◌, arith, add-one}
use Rattle.std.proofs.lemmas.List.{map-append, take-append-drop, length-drop, length-take-le}
use Rattle.list_cuts.specs.Cuts.{number_at, start_of, AreCuts}
use Rattle.list_parts.specs.Parts.{part_items, part_start, Chain, Follows}
use Rattle.list_parts.specs.Laws.Chains.{cut_chain, items_glued}
use Rattle.kin_pass.specs.declared.kin_parts.KinParts.{KinParts}
use Rattle.kin_pass.specs.Lists.{Column, rows_in}

pub snoc : (list : Column) (xs : List KinParts) (r : KinParts) → map list (xs ++ r ∷ []) ≡ map list xs ++ list r ∷ []
snoc list xs r = map-append list xs (r ∷ [])

pub snoc_two : (list : Column) (xs ys : List KinParts) (a b : KinParts) → ys ≡ xs ++ a ∷ [] → map list (ys ++ b ∷ []) ≡ (map list xs ++ list a ∷ []) ++ list b ∷ []
snoc_two list xs ys a b is = snoc list ys b ∙ ap (λ l. l ++ list b ∷ []) (ap (map list) is ∙ snoc list xs a)

-- this many rows of the rest are cut off: a is the first part of it, and b what is left
module _ (xs ys : List KinParts) (r a b : KinParts) (is : ys ≡ xs ++ a ∷ []) where
  pub place_next : (whole : KinParts) (list : Column) → Chain 4 (part_start (list whole)) (map list (xs ++ r ∷ [])) → (part_start (list a) ≡ part_start (list r)) × Follows 4 (list a) (list b)
      → Chain 4 (part_start (list whole)) (map list (ys ++ b ∷ []))
  place_next whole list chain cut =
      let p = part_start (list whole) in
      subst (Chain 4 p) (sym (snoc_two list xs ys a b is)) (cut_chain 4 p (map list xs) (list r) (list a) (list b) cut.0 cut.1 (subst (Chain 4 p) (snoc list xs r) chain))

  pub whole_next : (whole : KinParts) (at : ℕ) (list : Column) → flat_map part_items (map list (xs ++ r ∷ [])) ≡ part_items (list whole)
      → (part_items (list a) ≡ take at (part_items (list r))) × (part_items (list b) ≡ drop at (part_items (list r))) → flat_map part_items (map list (ys ++ b ∷ [])) ≡ part_items (list whole)
  whole_next whole at list before cut =
      ap (flat_map part_items) (snoc_two list xs ys a b is)
      ∙ items_glued (map list xs) (list a) (list b) (list r) (sym (take-append-drop at (part_items (list r))) ∙ (λ i. sym cut.0 i ++ sym cut.1 i))
      ∙ ap (flat_map part_items) (sym (snoc list xs r))
      ∙ before

-- how many rows the rest has, where stretch k is next and has this many
module _ (ends : List ℕ) (k at : ℕ) (many : at ≡ rows_in ends k) (less : k < length ends) (whole r : KinParts) where
  pub room_for : (list : Column) → AreCuts ends (length (part_items (list whole))) → start_of ends k + length (part_items (list r)) ≡ length (part_items (list whole)) → at ≤ length (part_items (list r))
  room_for list cuts left = let w = cuts.within k less in let o = cuts.order k less in omega arith

  pub wide_next : (a b : KinParts) (list : Column) → AreCuts ends (length (part_items (list whole))) → start_of ends k + length (part_items (list r)) ≡ length (part_items (list whole))
      → (part_items (list a) ≡ take at (part_items (list r))) × (part_items (list b) ≡ drop at (part_items (list r))) → length (part_items (list a)) ≡ rows_in ends k
  wide_next a b list cuts left cut = ap length cut.0 ∙ length-take-le at (part_items (list r)) (room_for list cuts left) ∙ many

  pub left_next : (a b : KinParts) (list : Column) → AreCuts ends (length (part_items (list whole))) → start_of ends k + length (part_items (list r)) ≡ length (part_items (list whole))
      → (part_items (list a) ≡ take at (part_items (list r))) × (part_items (list b) ≡ drop at (part_items (list r)))
      → start_of ends (k + 1) + length (part_items (list b)) ≡ length (part_items (list whole))
  left_next a b list cuts left cut =
      let w = cuts.within k less in
      let o = cuts.order k less in
      let n = ap length cut.1 in
      let m = length-drop at (part_items (list r)) in
      let s : start_of ends (k + 1) ≡ number_at ends k = ap (start_of ends) (add-one k) in
      omega arith

-- the rest is the last stretch
pub wide_last : (ends : List ℕ) (k : ℕ) (whole r : KinParts) → suc k ≡ length ends → (list : Column) → AreCuts ends (length (part_items (list whole)))
    → start_of ends k + length (part_items (list r)) ≡ length (part_items (list whole)) → length (part_items (list r)) ≡ rows_in ends k
wide_last ends k whole r is list cuts left =
    let e : number_at ends k ≡ length (part_items (list whole)) = ap (start_of ends) is ∙ cuts.all in
    omega arith
