-- The parts that are glued so far, from the last one on.
use Rattle.std.proofs.Common.{◌≡◌, ◌+◌, ◌≤◌, List, [], ◌∷◌, ◌++◌, length, map, flat_map, sym, ap, subst, ◌∙◌, arith, length-append}
use denote.RawPtr.{Ptr}
use Rattle.list_parts.specs.Parts.{part_items, part_start, Chain, Fits, Follows}
use Rattle.list_parts.specs.Laws.Chains.{fits_less, last_follows, glue_chain, items_glued, items_snoc}
use Rattle.kin_pass.specs.declared.kin_parts.KinParts.{KinParts}
use Rattle.kin_pass.specs.Lists.{Column}
use Rattle.kin_pass.proofs.Cutting.{snoc, snoc_two}

abbrev pub Stands : (parts left : List KinParts) (whole : KinParts) → Column → Type 0
Stands parts left whole list = (start : Ptr) → Chain 4 start (map list parts) → Chain 4 start (map list (left ++ whole ∷ []))

abbrev pub Has : (parts left : List KinParts) (whole : KinParts) → Column → Type 0
Has parts left whole list = flat_map part_items (map list parts) ≡ flat_map part_items (map list (left ++ whole ∷ []))

module _ (parts left rest : List KinParts) (part whole : KinParts) (is : left ≡ rest ++ part ∷ []) where
  pub follows : (list : Column) → (start : Ptr) × Chain 4 start (map list parts) → Stands parts left whole list → Follows 4 (list part) (list whole)
  follows list there stands = last_follows 4 there.0 (map list rest) (list part) (list whole) (subst (Chain 4 there.0) (snoc_two list rest left part whole is) (stands there.0 there.1))

  pub fits_both : (list : Column) → Fits 4 (length (flat_map part_items (map list parts))) → Has parts left whole list → Fits 4 (length (part_items (list part)) + length (part_items (list whole)))
  fits_both list fits has =
      let front = map list rest ++ list part ∷ [] in
      let a = ap length (has ∙ ap (flat_map part_items) (snoc_two list rest left part whole is) ∙ items_snoc front (list whole)) in
      let b = length-append (flat_map part_items front) (part_items (list whole)) in
      let d = ap length (items_snoc (map list rest) (list part)) in
      let e = length-append (flat_map part_items (map list rest)) (part_items (list part)) in
      let f : length (part_items (list part)) + length (part_items (list whole)) ≤ length (flat_map part_items (map list parts)) = omega arith in
      fits_less 4 (length (part_items (list part)) + length (part_items (list whole))) (length (flat_map part_items (map list parts))) f fits

  module _ (glued : KinParts) where
    pub stands_next : (list : Column) → Stands parts left whole list → part_start (list glued) ≡ part_start (list part) → Stands parts rest glued list
    stands_next list stands same = λ start there.
        subst (Chain 4 start) (sym (snoc list rest glued))
        (glue_chain 4 start (map list rest) (list part) (list whole) (list glued) same (subst (Chain 4 start) (snoc_two list rest left part whole is) (stands start there)))

    pub has_next : (list : Column) → Has parts left whole list → part_items (list glued) ≡ part_items (list part) ++ part_items (list whole) → Has parts rest glued list
    has_next list has items =
        has
        ∙ ap (flat_map part_items) (snoc_two list rest left part whole is)
        ∙ items_glued (map list rest) (list part) (list whole) (list glued) items
        ∙ ap (flat_map part_items) (sym (snoc list rest glued))
