use Rattle.std.proofs.Common.{◌≡◌, arith}
use Rattle.ll1_sets.specs.Width.{width_of}
use Rattle.table_text.specs.Listed.{layer_lines}
use Rattle.table_text.proofs.Listing.{next_onto, all_onto}
use Rattle.table_text.proofs.entries.push_layers.Goals as goal

pub loop-z-preserved : goal.loop-z-preserved
loop-z-preserved c = λ entry has.
    next_onto (λ z. layer_lines c.args.maker.now.grammar.now c.args.maker.now.outlines.now.sets z (entry z)) c.loop-z.z _ _ _ (c.loop-z.invariant entry has)
    (c.in_ok-push_layer.ensures (entry c.loop-z.z) (has c.loop-z.z))

pub returns : goal.returns
returns c = λ entry has.
    let end : c.loop-z.z ≡ width_of c.args.maker.now.grammar.now = omega (arith, c.loop-z-test.false, c.loop-z.auto.z-end, c.width_of-z-end.ensures) in
    all_onto (λ z. layer_lines c.args.maker.now.grammar.now c.args.maker.now.outlines.now.sets z (entry z)) c.loop-z.z (width_of c.args.maker.now.grammar.now) _ _ end
    (c.loop-z.invariant entry has)
