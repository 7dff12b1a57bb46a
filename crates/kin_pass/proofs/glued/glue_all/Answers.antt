use Rattle.kin_pass.proofs.Lists.{of_both}
use Rattle.kin_pass.proofs.Joining.{fits_both, follows, has_next, stands_next}
use Rattle.kin_pass.proofs.glued.glue_all.Goals as goal

pub glue_two-whole-requires-clause-neighbours : goal.glue_two-whole-requires-clause-neighbours
glue_two-whole-requires-clause-neighbours c =
    of_both (follows c.args.parts.items c.loop-part.left.items c.pop-in-loop-part.new.self.items c.in-Some-pop.part c.loop-part.whole c.in-Some-pop.ensures.items) c.requires.place c.loop-part.invariant.place

pub glue_two-whole-requires-clause-size : goal.glue_two-whole-requires-clause-size
glue_two-whole-requires-clause-size c =
    of_both (fits_both c.args.parts.items c.loop-part.left.items c.pop-in-loop-part.new.self.items c.in-Some-pop.part c.loop-part.whole c.in-Some-pop.ensures.items) c.requires.size c.loop-part.invariant.items

pub loop-part-preserved : goal.loop-part-preserved
loop-part-preserved c =
    let parts = c.args.parts.items in
    let left = c.loop-part.left.items in
    let rest = c.pop-in-loop-part.new.self.items in
    let part = c.in-Some-pop.part in
    let whole = c.loop-part.whole in
    let is = c.in-Some-pop.ensures.items in
    let glued = c.glue_two-whole.result in
    record {
      place = of_both (stands_next parts left rest part whole is glued) c.loop-part.invariant.place c.glue_two-whole.ensures.place;
      items = of_both (has_next parts left rest part whole is glued) c.loop-part.invariant.items c.glue_two-whole.ensures.items;
    }
