use Rattle.std.proofs.Common.{[], ◌∷◌, ◌++◌, List, flat_map, ap, subst, ◌∙◌}
use Rattle.list_parts.specs.declared.part.Part.{Part}
use Rattle.list_parts.specs.Parts.{part_items, Chain}
use Rattle.list_parts.specs.Laws.Chains.{last_follows, glue_chain, items_glued}
use Rattle.list_parts.proofs.part.Part.glue_all.Goals as goal

pub glue-whole-requires-clause-neighbours : goal.glue-whole-requires-clause-neighbours
glue-whole-requires-clause-neighbours g c =
    last_follows _ c.requires.place.0 c.pop-in-loop-part.new.self.items c.in-Some-pop.part c.loop-part.whole
    (subst (λ (xs : List (Part g.row.T.Denot)). Chain _ c.requires.place.0 (xs ++ c.loop-part.whole ∷ [])) c.in-Some-pop.ensures.items (c.loop-part.invariant.place _ c.requires.place.0 c.requires.place.1))

pub loop-part-preserved : goal.loop-part-preserved
loop-part-preserved g c = record {
  place = λ size start h. glue_chain size start c.pop-in-loop-part.new.self.items c.in-Some-pop.part c.loop-part.whole c.glue-whole.result c.glue-whole.ensures.place
      (subst (λ (xs : List (Part g.row.T.Denot)). Chain size start (xs ++ c.loop-part.whole ∷ [])) c.in-Some-pop.ensures.items (c.loop-part.invariant.place size start h));
  items = c.loop-part.invariant.items ∙ ap (λ (xs : List (Part g.row.T.Denot)). flat_map part_items (xs ++ c.loop-part.whole ∷ [])) c.in-Some-pop.ensures.items
      ∙ items_glued c.pop-in-loop-part.new.self.items c.in-Some-pop.part c.loop-part.whole c.glue-whole.result c.glue-whole.ensures.items;
}
