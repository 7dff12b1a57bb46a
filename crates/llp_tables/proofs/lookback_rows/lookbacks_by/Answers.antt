use Rattle.std.proofs.Common.{◌≡◌, ◌<◌, ◌*◌, length, sym, ap, subst, arith, ◌∙◌}
use Rattle.ll1_sets.specs.Width.{width_of}
use Rattle.llp_tables.specs.LookbackTable.{AreLookbacksOf}
use Rattle.llp_tables.proofs.LookbackRows.{tells_at, lookbacks_of_rows}
use Rattle.llp_tables.proofs.lookback_rows.lookbacks_by.Goals as goal

pub add_row-requires-clause-cells : goal.add_row-requires-clause-cells
add_row-requires-clause-cells c =
    let all = c.args.cells.now in
    let count = c.requires.count in
    let end = c.width_of-width.ensures in
    let test = c.loop-b-test.true in
    let within : c.loop-b.b < length all = omega arith in
    tells_at c.args.grammar.now all c.loop-b.b c.index-cells-b.result c.requires.cells within c.index-cells-b.is

pub returns : goal.returns
returns c =
    let g = c.args.grammar.now in
    let members = c.loop-b.members.items in
    let end = c.width_of-width.ensures in
    let test = c.loop-b-test.false in
    let bound = c.loop-b.auto.b-end in
    let all : c.loop-b.b ≡ width_of g = omega arith in
    let len = c.loop-b.invariant.place ∙ ap (λ b. b * width_of g) all in
    let same = c.new.ensures ∙ ap (λ w. record { width = w; members = members }) c.width_of-width.ensures in
    subst (AreLookbacksOf g) (sym same) (lookbacks_of_rows g c.requires.well_formed c.requires.ll1 c.requires.llp members len c.loop-b.invariant.members)
