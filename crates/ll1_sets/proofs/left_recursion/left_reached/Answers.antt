use Rattle.std.proofs.Common.{◌∙◌, true, arith}
use Rattle.std.proofs.lemmas.List.{length-set}
use Rattle.grammar_file.specs.Laws.Marks.{moved}
use Rattle.ll1_sets.specs.LeftReached.{IsNextLeft, IsLeftClosed}
use Rattle.ll1_sets.proofs.FrontMarks.{left_turn, left_marked}
use Rattle.ll1_sets.proofs.left_recursion.left_reached.Goals as goal

pub index_mut-requires : goal.index_mut-requires
index_mut-requires c =
    let next = moved (λ ps ms. IsNextLeft c.args.nullable.now ms c.args.a ps c.in-Some.x) c.productions.ensures.rules c.as_slice.ensures.value c.in-Some.ensures in
    let turn = left_turn c.args.grammar.now c.args.nullable.now c.requires c.args.a c.productions.ensures.well_formed c.loop-x.marks.items c.in-Some.x c.loop-x.invariant.len c.loop-x.invariant.sound next in
    omega (arith, turn.within)

pub loop-x-smaller : goal.loop-x-smaller
loop-x-smaller c =
    let next = moved (λ ps ms. IsNextLeft c.args.nullable.now ms c.args.a ps c.in-Some.x) c.productions.ensures.rules c.as_slice.ensures.value c.in-Some.ensures in
    let turn = left_turn c.args.grammar.now c.args.nullable.now c.requires c.args.a c.productions.ensures.well_formed c.loop-x.marks.items c.in-Some.x c.loop-x.invariant.len c.loop-x.invariant.sound next in
    turn.less

pub loop-x-preserved : goal.loop-x-preserved
loop-x-preserved c =
    let next = moved (λ ps ms. IsNextLeft c.args.nullable.now ms c.args.a ps c.in-Some.x) c.productions.ensures.rules c.as_slice.ensures.value c.in-Some.ensures in
    let turn = left_turn c.args.grammar.now c.args.nullable.now c.requires c.args.a c.productions.ensures.well_formed c.loop-x.marks.items c.in-Some.x c.loop-x.invariant.len c.loop-x.invariant.sound next in
    record { len = length-set c.loop-x.marks.items c.in-Some.x true ∙ c.loop-x.invariant.len; sound = turn.sound }

pub returns : goal.returns
returns c =
    let marks = c.loop-x.marks.items in
    let closed = moved (λ ps ms. IsLeftClosed c.args.nullable.now ms c.args.a ps) c.productions.ensures.rules c.as_slice.ensures.value c.in_default.ensures in
    record { len = c.loop-x.invariant.len; sound = c.loop-x.invariant.sound; complete = left_marked c.args.grammar.now c.args.nullable.now c.requires c.args.a marks closed }
