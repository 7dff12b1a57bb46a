-- Parts that come back are glued in order.
use Rattle.std.proofs.Common.{◌≡◌, ℕ, suc, ◌+◌, ◌*◌, ◌<◌, ◌≤◌, List, [], ◌∷◌, ◌++◌, length, flat_map, sym, ap, ◌∙◌, subst, arith, length-append, append_assoc, add-one}
use Rattle.std.specs.List.{range_with_len}
use Rattle.std.proofs.lemmas.List.{append-nil}
use denote.RawPtr.{Ptr, ◌+ₚ◌}
use Rattle.list_parts.specs.declared.part.Part.{Part}
use Rattle.list_parts.specs.Parts.{part_items, part_start, Follows, Chain}
use Rattle.par_passes.specs.Passes.{Gives}
use Rattle.par_passes.specs.Dealt.{InPlace, Joins}
use Rattle.par_passes.specs.Laws.Giving.{gives_none, gives_before, gives_next}
use Rattle.par_passes.specs.Laws.Marking.{range_next}
use Rattle.list_parts.specs.Laws.Chains.{total, chain_at, chain_first, total_next, total_most, get_below}

-- where each part that came back lies where the part that was dealt lay
module _ {U : Type 0} (s : ℕ) (parts : List (Part U)) (good : ℕ → Part U → Type 0) where
  -- the first k of them as one
  pub record Glued (k : ℕ) (whole : Part U) : Type 0 where
    pub place : (start : Ptr) → Chain s start parts → part_start whole ≡ start
    pub wide : length (part_items whole) ≡ total k parts
    pub values : Joins good k whole

  module _ (in_place : InPlace parts good) where
    pub one : (x : Part U) → 0 < length parts → good 0 x → Glued 1 x
    one x some fine = let old = get_below parts 0 some in let same = in_place 0 old.0 x old.1 fine in record {
      place = λ start h. same.start ∙ chain_first s start parts old.0 h old.1;
      wide = let count = same.count in omega (arith, total_next parts 0 old.0 old.1);
      values = (x ∷ [], gives_before good 0 x [] [] fine (gives_none good), sym (append-nil (part_items x)));
    }

    flat_last : (back : List (Part U)) (x : Part U) → flat_map part_items (back ++ x ∷ []) ≡ flat_map part_items back ++ part_items x
    flat_last [] x = append-nil (part_items x)
    flat_last (b ∷ back) x = ap (λ l. part_items b ++ l) (flat_last back x) ∙ sym (append_assoc (part_items b) (flat_map part_items back) (part_items x))

    module _ (k : ℕ) (whole part : Part U) (more : k < length parts) (fine : good k part) (glued : Glued k whole) where
      pub behind : (start : Ptr) → Chain s start parts → Follows s whole part
      behind start h = let old = get_below parts k more in let same = in_place k old.0 part old.1 fine in record {
        start = same.start ∙ chain_at s start parts k old.0 h old.1 ∙ (λ i. sym (glued.place start h) i +ₚ sym glued.wide i * s);
      }

      both : length (part_items whole) + length (part_items part) ≡ total (suc k) parts
      both = let old = get_below parts k more in let same = in_place k old.0 part old.1 fine in let wide = glued.wide in let count = same.count in omega (arith, total_next parts k old.0 old.1)

      pub fits : length (part_items whole) + length (part_items part) ≤ length (flat_map part_items parts)
      fits = omega (arith, both, total_most parts (suc k))

      pub next : (g : Part U) → part_start g ≡ part_start whole → part_items g ≡ part_items whole ++ part_items part → Glued (k + 1) g
      next g start items = record {
        place = λ p h. start ∙ glued.place p h;
        wide = ap length items ∙ length-append (part_items whole) (part_items part) ∙ both ∙ ap (λ j. total j parts) (sym (add-one k));
        values =
            let back = glued.values.0 in
            let here : k ≡ 0 + k = omega arith in (
              back ++ part ∷ [],
              subst (λ l. Gives good l (back ++ part ∷ [])) (ap (λ j. range_with_len 0 k ++ j ∷ []) here ∙ sym (range_next 0 k)) (gives_next good (range_with_len 0 k) back k part glued.values.1 fine),
              items ∙ ap (λ l. l ++ part_items part) glued.values.2 ∙ sym (flat_last back part),
            );
      }
