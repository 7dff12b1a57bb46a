use Rattle.std.proofs.Common.{◌∙◌}
use Rattle.kin_pass.proofs.Lists.{of_both, of_each, of_three}
use Rattle.kin_pass.proofs.Together.{chained, cuts_of, fitting, ties_joined, whole_stays, written_stay, written_ties}
use Rattle.kin_pass.proofs.written.write_all.Goals as goal

pub cut_at_ends-parts-requires-clause-cuts : goal.cut_at_ends-parts-requires-clause-cuts
cut_at_ends-parts-requires-clause-cuts g c = of_each (cuts_of c.args.stretches.now.lows.now c.args.stretches.now.ends.now c.args.whole c.requires.stretches.cuts) c.requires.lent

pub glue_all-requires-clause-place : goal.glue_all-requires-clause-place
glue_all-requires-clause-place g c =
    let xs = c.cut_at_ends-parts.result.items in
    let ys = c.in-Ok-write_stretches.parts.items in
    let done = c.in-Ok-write_stretches.ensures in
    of_both (chained c.args.whole xs ys done.many) (written_stay c.args.stretches.now xs ys done.each) c.cut_at_ends-parts.ensures.place

pub glue_all-requires-clause-size : goal.glue_all-requires-clause-size
glue_all-requires-clause-size g c =
    let xs = c.cut_at_ends-parts.result.items in
    let ys = c.in-Ok-write_stretches.parts.items in
    let done = c.in-Ok-write_stretches.ensures in
    of_three (fitting c.args.whole xs ys done.many _) (written_stay c.args.stretches.now xs ys done.each) c.cut_at_ends-parts.ensures.whole c.requires.lent

pub returns-in-Ok-write_stretches-clause-place : goal.returns-in-Ok-write_stretches-clause-place
returns-in-Ok-write_stretches-clause-place g c =
    let xs = c.cut_at_ends-parts.result.items in
    let ys = c.in-Ok-write_stretches.parts.items in
    let done = c.in-Ok-write_stretches.ensures in
    let cut = c.cut_at_ends-parts.ensures in
    whole_stays c.args.whole xs ys done.many c.glue_all.result (written_stay c.args.stretches.now xs ys done.each) cut.place cut.whole c.glue_all.ensures.place c.glue_all.ensures.items

pub returns-in-Ok-write_stretches-clause-ties : goal.returns-in-Ok-write_stretches-clause-ties
returns-in-Ok-write_stretches-clause-ties g c =
    let s = c.args.stretches.now in
    let xs = c.cut_at_ends-parts.result.items in
    let ys = c.in-Ok-write_stretches.parts.items in
    let done = c.in-Ok-write_stretches.ensures in
    ties_joined s.lows.now s.ends.now ys c.glue_all.result (done.many ∙ c.cut_at_ends-parts.ensures.count) (written_ties s xs ys done.many done.each) c.glue_all.ensures.items
