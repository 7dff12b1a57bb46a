use Rattle.std.proofs.Common.{inr, refl, arith}
use Rattle.ll1_sets.proofs.PredictSets.{ll1_where_none, least_of_all}
use Rattle.ll1_sets.proofs.table.Ll1Table.of.Goals as goal

pub returns-in-Some-clause-fault : goal.returns-in-Some-clause-fault
returns-in-Some-clause-fault c =
    let g = c.args.grammar.now in
    let k = c.in-Some.conflict in
    inr (k, refl, least_of_all g c.requires.well_formed k (rw c.in-Some.is at c.in_ok-columns.ensures.conflict))

pub returns-in-None-clause-ok : goal.returns-in-None-clause-ok
returns-in-None-clause-ok c =
    (c.in_ok-columns.ensures.columns, ll1_where_none c.args.grammar.now c.requires.well_formed (rw c.in-None.is at c.in_ok-columns.ensures.conflict))

pub returns-in-Some-clause-served : goal.returns-in-Some-clause-served
returns-in-Some-clause-served c = λ ll1.
    let k = c.in-Some.conflict in
    let least = least_of_all c.args.grammar.now c.requires.well_formed k (rw c.in-Some.is at c.in_ok-columns.ensures.conflict) in
    let order = least.in_order in
    let same = ll1 k.nonterminal k.p1 k.p2 k.b least.first least.second in
    absurd (omega arith)
