use Rattle.std.proofs.Common.{arith}
use Rattle.ll1_sets.specs.Predict.{IsLeftRecursive}
use Rattle.ll1_sets.proofs.FrontMarks.{one_more_below, left_recursive_within}
use Rattle.ll1_sets.proofs.left_recursion.least_left_recursive.Goals as goal

pub loop-a-preserved : goal.loop-a-preserved
loop-a-preserved c = one_more_below (IsLeftRecursive c.args.grammar.now) c.loop-a.a c.loop-a.invariant (c.in_ok-is_left_recursive.ensures.other c.if-branch.false)

pub returns : goal.returns
returns c = λ a h.
    let n = left_recursive_within c.args.grammar.now c.requires.well_formed a h in
    let count = c.nonterminal_count-a-end.ensures in
    let end = c.loop-a-test.false in
    c.loop-a.invariant a (omega arith) h
