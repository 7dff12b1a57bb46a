use Rattle.std.proofs.Common.{rules, ◌≡◌, ℕ, ◌+◌, [], ◌∷◌, ◌++◌, List, length, flat_map, Some, slice_get, sym, ap, subst, ◌∙◌, ⊎_elim, arith}
use Rattle.core.specs.Mem.{type_size}
use Rattle.chunk_seats.specs.Chunks.{chunk_of}
use Rattle.std.proofs.lemmas.List.{take-append-drop}
use Rattle.list_parts.specs.declared.part.Part.{Part}
use Rattle.list_parts.specs.Parts.{part_items, Chain}
use Rattle.list_parts.specs.Laws.Chains.{get_snoc, cut_chain, next_chunk, next_rest, last_chunk, items_glued}
use Rattle.list_parts.proofs.part.Part.cut_all.Goals as goal

pub loop-preserved : goal.loop-preserved
loop-preserved g c =
    let P = Part g.row.T.Denot in let self = part_items c.args.self in let size = c.args.size in let inv = c.loop.invariant in let k = length c.loop.parts.items in let a = c.cut-part.result.0 in let b = c.cut-part.result.1 in let pushed = c.push_reserved.ensures.items in
    let more : length c.push_reserved.new.self.items ≡ k + 1 = search rules in record {
      number = omega (arith, more, inv.number);
      room = search rules;
      place = λ start h. subst (λ (xs : List P). Chain (type_size g.row.T) start (xs ++ b ∷ [])) (sym pushed) (cut_chain (type_size g.row.T) start c.loop.parts.items c.loop.rest a b c.cut-part.ensures.place.0 c.cut-part.ensures.place.1 (inv.place start h));
      whole = ap (λ (xs : List P). flat_map part_items (xs ++ b ∷ [])) pushed ∙ items_glued c.loop.parts.items a b c.loop.rest (sym (take-append-drop size (part_items c.loop.rest)) ∙ (λ i. sym c.cut-part.ensures.items.0 i ++ sym c.cut-part.ensures.items.1 i)) ∙ inv.whole;
      items = λ n part at. ⊎_elim (λ (h : slice_get c.loop.parts.items n ≡ Some part). inv.items n part h)
          (λ (h : (n ≡ k) × (a ≡ part)). ap part_items (sym h.1) ∙ next_chunk size k self (part_items c.loop.rest) inv.rest (part_items a) c.cut-part.ensures.items.0 ∙ ap (λ (j : ℕ). chunk_of size self j) (sym h.0))
          (get_snoc c.loop.parts.items a n part (subst (λ (xs : List P). slice_get xs n ≡ Some part) pushed at));
      rest = next_rest size k self (part_items c.loop.rest) inv.rest (part_items b) _ more c.cut-part.ensures.items.1;
    }

pub returns-clause-items : goal.returns-clause-items
returns-clause-items g c = λ n part at.
    let P = Part g.row.T.Denot in let self = part_items c.args.self in let size = c.args.size in let inv = c.loop.invariant in let k = length c.loop.parts.items in
    ⊎_elim (λ (h : slice_get c.loop.parts.items n ≡ Some part). inv.items n part h)
    (λ (h : (n ≡ k) × (c.loop.rest ≡ part)). ap part_items (sym h.1) ∙ last_chunk size k self (part_items c.loop.rest) inv.rest c.args.count (omega (arith, inv.number, c.loop-test.false, c.loop.auto, c.requires.count.0)) c.requires.count.2 ∙ ap (λ (j : ℕ). chunk_of size self j) (sym h.0))
    (get_snoc c.loop.parts.items c.loop.rest n part (subst (λ (xs : List P). slice_get xs n ≡ Some part) c.push_reserved-2.ensures.items at))
