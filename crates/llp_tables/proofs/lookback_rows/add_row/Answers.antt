use Rattle.std.proofs.Common.{◌<◌, [], ◌∷◌, length, sym, ap, subst, arith, length-append}
use Rattle.ll1_sets.specs.Width.{width_of}
use Rattle.llp_tables.specs.LookbackTable.{HasLookback, AreMembers}
use Rattle.llp_tables.proofs.FilledTables.{filled_more}
use Rattle.llp_tables.proofs.lookback_rows.add_row.Goals as goal

pub loop-a-preserved : goal.loop-a-preserved
loop-a-preserved c =
    let g = c.args.grammar.now in
    let members = c.loop-a.members.items in
    let has = c.in_ok-member.ensures g c.args.b (c.requires.cells c.loop-a.a) in
    let end = c.width_of-a-end.ensures in
    let test = c.loop-a-test.true in
    let within : c.loop-a.a < width_of g = omega arith in
    let pushed = ap length c.in_ok-push.ensures.items in
    let len = length-append members (c.in_ok-member.member ∷ []) in
    let place = c.loop-a.invariant.place in
    record {
      members =
          subst (AreMembers g) (sym c.in_ok-push.ensures.items)
          (filled_more (width_of g) (HasLookback g) c.loop-a.a c.args.b members c.in_ok-member.member within place c.loop-a.invariant.members has);
      place = omega (arith, pushed, len, place);
    }
