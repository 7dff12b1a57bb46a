use Rattle.std.proofs.Common.{◌≡◌, arith}
use Rattle.ll1_sets.specs.Width.{width_of}
use Rattle.table_text.specs.Entries.{row_lines}
use Rattle.table_text.specs.Listed.{looked_back, two_before}
use Rattle.table_text.proofs.Listing.{next_onto, all_onto}
use Rattle.table_text.proofs.entries.push_layer.Goals as goal

pub loop-a-preserved : goal.loop-a-preserved
loop-a-preserved c = λ entry has.
    next_onto (λ a. row_lines c.args.maker.now.grammar.now (looked_back c.args.maker.now.outlines.now.sets (two_before c.args.z a)) (entry a)) c.loop-a.a _ _ _ (c.loop-a.invariant entry has)
    (c.in_ok-push_row.ensures (entry c.loop-a.a) (has c.loop-a.a))

pub returns : goal.returns
returns c = λ entry has.
    let end : c.loop-a.a ≡ width_of c.args.maker.now.grammar.now = omega (arith, c.loop-a-test.false, c.loop-a.auto.a-end, c.width_of-a-end.ensures) in
    all_onto (λ a. row_lines c.args.maker.now.grammar.now (looked_back c.args.maker.now.outlines.now.sets (two_before c.args.z a)) (entry a)) c.loop-a.a (width_of c.args.maker.now.grammar.now) _ _ end
    (c.loop-a.invariant entry has)
