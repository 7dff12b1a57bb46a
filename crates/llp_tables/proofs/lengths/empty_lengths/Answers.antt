use Rattle.std.proofs.Common.{Some, ◌∙◌, subst, arith}
use Rattle.std.proofs.lemmas.List.{length-set}
use Rattle.ll1_sets.specs.Marking.{all_vanish, IsClosedBy}
use Rattle.llp_tables.specs.Lengths.{counted, IsNextLength}
use Rattle.llp_tables.proofs.EmptyLengths.{round, counts_all}
use Rattle.llp_tables.proofs.lengths.empty_lengths.Goals as goal

pub index_mut-requires : goal.index_mut-requires
index_mut-requires c =
    let next = subst (λ ls. IsNextLength c.args.grammar.now.productions ls c.in-Some.a c.in-Some.length) c.as_slice.ensures.value
    (subst (λ ps. IsNextLength ps c.as_slice.result.now c.in-Some.a c.in-Some.length) c.productions.ensures.rules c.in-Some.ensures) in
    let within = (round c.args.grammar.now c.loop-a.lengths.items c.loop-a.invariant.counts c.productions.ensures.well_formed c.in-Some.a c.in-Some.length c.loop-a.invariant.len next).within in
    omega (arith, within)

pub loop-a-smaller : goal.loop-a-smaller
loop-a-smaller c =
    let next = subst (λ ls. IsNextLength c.args.grammar.now.productions ls c.in-Some.a c.in-Some.length) c.as_slice.ensures.value
    (subst (λ ps. IsNextLength ps c.as_slice.result.now c.in-Some.a c.in-Some.length) c.productions.ensures.rules c.in-Some.ensures) in
    (round c.args.grammar.now c.loop-a.lengths.items c.loop-a.invariant.counts c.productions.ensures.well_formed c.in-Some.a c.in-Some.length c.loop-a.invariant.len next).less

pub loop-a-preserved : goal.loop-a-preserved
loop-a-preserved c =
    let next = subst (λ ls. IsNextLength c.args.grammar.now.productions ls c.in-Some.a c.in-Some.length) c.as_slice.ensures.value
    (subst (λ ps. IsNextLength ps c.as_slice.result.now c.in-Some.a c.in-Some.length) c.productions.ensures.rules c.in-Some.ensures) in
    let turn = round c.args.grammar.now c.loop-a.lengths.items c.loop-a.invariant.counts c.productions.ensures.well_formed c.in-Some.a c.in-Some.length c.loop-a.invariant.len next in
    record { len = length-set c.loop-a.lengths.items c.in-Some.a (Some c.in-Some.length) ∙ c.loop-a.invariant.len; counts = turn.counts }

pub returns : goal.returns
returns c =
    counts_all c.args.grammar.now c.loop-a.lengths.items c.loop-a.invariant.counts c.loop-a.invariant.len
    (subst (λ ls. IsClosedBy (all_vanish (counted ls)) c.args.grammar.now.productions (counted ls)) c.as_slice.ensures.value
    (subst (λ ps. IsClosedBy (all_vanish (counted c.as_slice.result.now)) ps (counted c.as_slice.result.now)) c.productions.ensures.rules c.in_default.ensures))
