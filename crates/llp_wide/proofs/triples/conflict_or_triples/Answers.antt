use Rattle.std.proofs.Common.{◌≡◌, ◌+◌, ℕ, Option, subst, arith}
use Rattle.std.specs.Option.{IfSome}
use Rattle.std.proofs.lemmas.Option.{IfSome_then}
use Rattle.ll1_sets.specs.Width.{width_of}
use Rattle.llp_wide.specs.Triples.{AreLayers}
use Rattle.llp_wide.specs.WideConflicts.{LeastWideBelow}
use Rattle.llp_wide.specs.declared.conflicts.WideConflict.{WideConflict}
use Rattle.llp_wide.proofs.Conflicting.{wide_matched}
use Rattle.llp_wide.proofs.triples.conflict_or_triples.Goals as goal

pub with_layer-triples-requires-clause-llp : goal.with_layer-triples-requires-clause-llp
with_layer-triples-requires-clause-llp c =
    let g = c.args.grammar.now in
    let b = c.loop-b.b in
    let least : LeastWideBelow g (b + 1) c.lesser-best.result = c.lesser-best.ensures g b c.loop-b.invariant.least c.in_ok-next.ensures in
    IfSome_then c.if_free-free.result c.if_free-free.ensures (λ t h z a. subst (λ (o : Option WideConflict). LeastWideBelow g (b + 1) o) h.1 least z a b (omega arith))

pub with_layer-triples-requires-clause-layers : goal.with_layer-triples-requires-clause-layers
with_layer-triples-requires-clause-layers c = IfSome_then c.if_free-free.result c.if_free-free.ensures (λ t h. rw h.0 at c.loop-b.invariant.layers)

pub loop-b-preserved : goal.loop-b-preserved
loop-b-preserved c = record { least = c.lesser-best.ensures c.args.grammar.now c.loop-b.b c.loop-b.invariant.least c.in_ok-next.ensures; layers = c.with_layer-triples.ensures }

pub returns-clause-conflict : goal.returns-clause-conflict
returns-clause-conflict c =
    let g = c.args.grammar.now in
    let e = c.width_of-b-end.ensures in
    let end = c.loop-b-test.false in
    let bound = c.loop-b.auto.b-end in
    wide_matched g c.requires.sets.well_formed c.loop-b.b (omega arith) c.loop-b.best c.loop-b.invariant.least

pub returns-clause-triples : goal.returns-clause-triples
returns-clause-triples c =
    let g = c.args.grammar.now in
    let e = c.width_of-b-end.ensures in
    let end = c.loop-b-test.false in
    let bound = c.loop-b.auto.b-end in
    let all : c.loop-b.b ≡ width_of g = omega arith in
    subst (λ (n : ℕ). IfSome c.loop-b.triples (λ t. AreLayers g n t.numbers.items t.stacks.items)) all c.loop-b.invariant.layers
