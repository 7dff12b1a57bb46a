use Rattle.std.proofs.Common.{rules, arith, ◌≡◌, ◌<◌, suc, length, map, flat_map, subst, sym}
use Rattle.list_parts.specs.Parts.{part_items, part_start, Chain}
use Rattle.kin_pass.specs.Lists.{AreWide, EachList, rows_in}
use Rattle.kin_pass.proofs.Lists.{of_both, of_three}
use Rattle.kin_pass.proofs.Ranges.{each_next}
use Rattle.kin_pass.proofs.Cutting.{place_next, whole_next, room_for, wide_next, left_next, wide_last}
use Rattle.kin_pass.proofs.cut.cut_at_ends.Goals as goal

pub count_rows-requires-clause-order : goal.count_rows-requires-clause-order
count_rows-requires-clause-order c = c.requires.cuts.parents.order c.loop-c.c (omega arith)

pub cut_in_two-part-requires : goal.cut_in_two-part-requires
cut_in_two-part-requires c = of_both (room_for c.args.ends.now c.loop-c.c c.count_rows.result c.count_rows.ensures (omega arith) c.args.whole c.loop-c.rest) c.requires.cuts c.loop-c.invariant.left

pub loop-c-preserved : goal.loop-c-preserved
loop-c-preserved c =
    let ends = c.args.ends.now in
    let whole = c.args.whole in
    let k = c.loop-c.c in
    let less : k < length ends = omega arith in
    let old = c.loop-c.parts.items in
    let new = c.push_reserved.new.self.items in
    let rest = c.loop-c.rest in
    let part = c.cut_in_two-part.result.0 in
    let behind = c.cut_in_two-part.result.1 in
    let at = c.count_rows.result in
    let inv = c.loop-c.invariant in
    let is = c.push_reserved.ensures.items in
    let items = c.cut_in_two-part.ensures.items in
    record {
      number = search rules;
      room = search rules;
      place = of_both (place_next old new rest part behind is whole) inv.place c.cut_in_two-part.ensures.place;
      whole = of_both (whole_next old new rest part behind is whole at) inv.whole items;
      wide = each_next (λ j x. AreWide (rows_in ends j) x) old new part k is inv.number inv.wide (of_three (wide_next ends k at c.count_rows.ensures less whole rest part behind) c.requires.cuts inv.left items);
      left = of_three (left_next ends k at c.count_rows.ensures less whole rest part behind) c.requires.cuts inv.left items;
    }

pub returns-clause-place : goal.returns-clause-place
returns-clause-place c = subst (λ l. EachList (λ list. Chain 4 (part_start (list c.args.whole)) (map list l))) (sym c.push_reserved-2.ensures.items) c.loop-c.invariant.place

pub returns-clause-whole : goal.returns-clause-whole
returns-clause-whole c = subst (λ l. EachList (λ list. flat_map part_items (map list l) ≡ part_items (list c.args.whole))) (sym c.push_reserved-2.ensures.items) c.loop-c.invariant.whole

pub returns-clause-wide : goal.returns-clause-wide
returns-clause-wide c =
    let ends = c.args.ends.now in
    let k = c.loop-c.c in
    let inv = c.loop-c.invariant in
    let last : suc k ≡ length ends = omega arith in
    each_next (λ j x. AreWide (rows_in ends j) x) c.loop-c.parts.items c.push_reserved-2.new.self.items c.loop-c.rest k c.push_reserved-2.ensures.items inv.number inv.wide (of_both (wide_last ends k c.args.whole c.loop-c.rest last) c.requires.cuts inv.left)
