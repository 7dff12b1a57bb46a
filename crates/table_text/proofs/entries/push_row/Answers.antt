use Rattle.std.proofs.Common.{◌≡◌, arith}
use Rattle.ll1_sets.specs.Width.{width_of}
use Rattle.table_text.specs.Entries.{entry_line}
use Rattle.table_text.specs.Listed.{looked_back}
use Rattle.table_text.proofs.Listing.{next_onto, all_onto}
use Rattle.table_text.proofs.entries.push_row.Goals as goal

pub loop-b-preserved : goal.loop-b-preserved
loop-b-preserved c = λ entry has.
    next_onto (λ b. entry_line c.args.maker.now.grammar.now (looked_back c.args.maker.now.outlines.now.sets c.args.behind) b (entry b)) c.loop-b.b _ _ _ (c.loop-b.invariant entry has)
    (c.in_ok-push_entry.ensures (entry c.loop-b.b) (has c.loop-b.b))

pub returns : goal.returns
returns c = λ entry has.
    let end : c.loop-b.b ≡ width_of c.args.maker.now.grammar.now = omega (arith, c.loop-b-test.false, c.loop-b.auto.b-end, c.width_of-b-end.ensures) in
    all_onto (λ b. entry_line c.args.maker.now.grammar.now (looked_back c.args.maker.now.outlines.now.sets c.args.behind) b (entry b)) c.loop-b.b (width_of c.args.maker.now.grammar.now) _ _ end
    (c.loop-b.invariant entry has)
