use Rattle.std.proofs.Common.{◌∙◌, true, arith}
use Rattle.std.proofs.lemmas.List.{length-set}
use Rattle.grammar_file.specs.Laws.Marks.{moved}
use Rattle.ll1_sets.specs.Marking.{IsNextBy, IsClosedBy}
use Rattle.llp_wide.specs.Endings.{finishes}
use Rattle.llp_wide.proofs.LastSets.{last_turn, last_marked}
use Rattle.llp_wide.proofs.endings.last.Goals as goal

pub index_mut-requires : goal.index_mut-requires
index_mut-requires c =
    let next = moved (λ ps ms. IsNextBy (finishes c.args.nullable.now ms c.args.y) ps ms c.in-Some.a) c.productions.ensures.rules c.as_slice.ensures.value c.in-Some.ensures in
    let turn = last_turn c.args.grammar.now c.args.nullable.now c.requires.nullable c.args.y c.productions.ensures.well_formed c.requires.reduced c.loop-a.marks.items c.in-Some.a c.loop-a.invariant.len c.loop-a.invariant.sound next in
    omega (arith, turn.within)

pub loop-a-smaller : goal.loop-a-smaller
loop-a-smaller c =
    let next = moved (λ ps ms. IsNextBy (finishes c.args.nullable.now ms c.args.y) ps ms c.in-Some.a) c.productions.ensures.rules c.as_slice.ensures.value c.in-Some.ensures in
    let turn = last_turn c.args.grammar.now c.args.nullable.now c.requires.nullable c.args.y c.productions.ensures.well_formed c.requires.reduced c.loop-a.marks.items c.in-Some.a c.loop-a.invariant.len c.loop-a.invariant.sound next in
    turn.less

pub loop-a-preserved : goal.loop-a-preserved
loop-a-preserved c =
    let next = moved (λ ps ms. IsNextBy (finishes c.args.nullable.now ms c.args.y) ps ms c.in-Some.a) c.productions.ensures.rules c.as_slice.ensures.value c.in-Some.ensures in
    let turn = last_turn c.args.grammar.now c.args.nullable.now c.requires.nullable c.args.y c.productions.ensures.well_formed c.requires.reduced c.loop-a.marks.items c.in-Some.a c.loop-a.invariant.len c.loop-a.invariant.sound next in
    record { len = length-set c.loop-a.marks.items c.in-Some.a true ∙ c.loop-a.invariant.len; sound = turn.sound }

pub returns : goal.returns
returns c =
    let g = c.args.grammar.now in
    let marks = c.loop-a.marks.items in
    let closed = moved (λ ps ms. IsClosedBy (finishes c.args.nullable.now ms c.args.y) ps ms) c.productions.ensures.rules c.as_slice.ensures.value c.in_default.ensures in
    record { len = c.loop-a.invariant.len; sound = c.loop-a.invariant.sound; complete = last_marked g c.args.nullable.now c.requires.nullable c.args.y marks closed }
