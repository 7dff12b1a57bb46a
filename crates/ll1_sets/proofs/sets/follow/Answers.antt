use Rattle.std.proofs.Common.{◌∙◌, sym, subst, true, arith}
use Rattle.std.proofs.lemmas.List.{length-set}
use Rattle.grammar_file.specs.Laws.Marks.{moved, marked_stays}
use Rattle.ll1_sets.specs.Predict.{IsFollow}
use Rattle.ll1_sets.specs.Marking.{IsNextFollow, IsFollowClosed}
use Rattle.ll1_sets.specs.Laws.FollowMarks.{follow_start, follow_turn, follow_marked}
use Rattle.ll1_sets.proofs.sets.follow.Goals as goal

pub loop-a-init : goal.loop-a-init
loop-a-init c =
    let e = c.in_ok-marks.ensures in
    record { len = e.len; start = e.start; sound = λ x h. let o = e.only x h in subst (λ n. IsFollow c.args.grammar.now n c.args.b) (sym o.0) (follow_start c.args.grammar.now c.args.b o.1) }

pub index_mut-requires : goal.index_mut-requires
index_mut-requires c =
    let p = c.productions.ensures in
    let next = moved (λ ps ms. IsNextFollow c.args.nullable.now c.args.first.now ms c.args.b ps c.in-Some.a) p.rules c.as_slice.ensures.value c.in-Some.ensures in
    let turn = follow_turn c.args.grammar.now c.args.nullable.now c.args.first.now c.args.b c.requires.nullable c.requires.first p.well_formed p.reduced c.loop-a.marks.items c.in-Some.a c.loop-a.invariant.len c.loop-a.invariant.sound next in
    omega (arith, turn.within)

pub loop-a-smaller : goal.loop-a-smaller
loop-a-smaller c =
    let p = c.productions.ensures in
    let next = moved (λ ps ms. IsNextFollow c.args.nullable.now c.args.first.now ms c.args.b ps c.in-Some.a) p.rules c.as_slice.ensures.value c.in-Some.ensures in
    let turn = follow_turn c.args.grammar.now c.args.nullable.now c.args.first.now c.args.b c.requires.nullable c.requires.first p.well_formed p.reduced c.loop-a.marks.items c.in-Some.a c.loop-a.invariant.len c.loop-a.invariant.sound next in
    turn.less

pub loop-a-preserved : goal.loop-a-preserved
loop-a-preserved c =
    let p = c.productions.ensures in
    let marks = c.loop-a.marks.items in
    let next = moved (λ ps ms. IsNextFollow c.args.nullable.now c.args.first.now ms c.args.b ps c.in-Some.a) p.rules c.as_slice.ensures.value c.in-Some.ensures in
    let turn = follow_turn c.args.grammar.now c.args.nullable.now c.args.first.now c.args.b c.requires.nullable c.requires.first p.well_formed p.reduced marks c.in-Some.a c.loop-a.invariant.len c.loop-a.invariant.sound next in
    record { len = length-set marks c.in-Some.a true ∙ c.loop-a.invariant.len; start = λ e. marked_stays marks c.in-Some.a 0 turn.within (c.loop-a.invariant.start e); sound = turn.sound }

pub returns-in_default : goal.returns-in_default
returns-in_default c =
    let marks = c.loop-a.marks.items in
    let closed = moved (λ ps ms. IsFollowClosed c.args.nullable.now c.args.first.now ms c.args.b ps) c.productions.ensures.rules c.as_slice.ensures.value c.in_default.ensures in
    record { len = c.loop-a.invariant.len; sound = c.loop-a.invariant.sound; complete = follow_marked c.args.grammar.now c.args.nullable.now c.args.first.now c.args.b c.requires.nullable c.requires.first marks closed c.loop-a.invariant.start }
