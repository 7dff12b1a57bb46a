use Rattle.std.proofs.Common.{◌≡◌, sym, ◌∙◌, subst, arith}
use Rattle.llp_tables.specs.Lengths.{AreEmptyLengths}
use Rattle.llp_tables.proofs.PieceLengths.{counted_start, counted_full, turn, last_turn}
use Rattle.llp_tables.proofs.lengths.PieceRoom.productions.Goals as goal

pub loop-sum-init : goal.loop-sum-init
loop-sum-init c lengths h = counted_start c.args.ahead.now.grammar.now c.args.ahead.now.b c.args.closes.now h.member.0 h.member.1

pub returns-in-None : goal.returns-in-None
returns-in-None c lengths h =
    let value : c.args.self.now ≡ c.as_slice-lengths.result.now = sym c.self.view_is ∙ sym c.as_slice-lengths.ensures.value in
    last_turn c.args.ahead.now.grammar.now c.args.ahead.now.b c.args.closes.now c.args.ahead.now.first.now c.args.ahead.now.predictions.now c.as_slice-lengths.result.now (subst (AreEmptyLengths c.args.ahead.now.grammar.now) value lengths) h
    c.loop-sum.form.now c.loop-sum.sum (c.loop-sum.invariant lengths h) c.front_of-place.result c.front_of-place.ensures.place c.skipped.result c.saturating_add-sum.result
    c.skipped.ensures c.saturating_add-sum.ensures c.in-None.ensures

pub loop-sum-preserved : goal.loop-sum-preserved
loop-sum-preserved c lengths h =
    let value : c.args.self.now ≡ c.as_slice-lengths.result.now = sym c.self.view_is ∙ sym c.as_slice-lengths.ensures.value in
    turn c.args.ahead.now.grammar.now c.args.ahead.now.b c.args.closes.now c.args.ahead.now.first.now c.args.ahead.now.predictions.now c.as_slice-lengths.result.now (subst (AreEmptyLengths c.args.ahead.now.grammar.now) value lengths) h
    c.loop-sum.form.now c.loop-sum.sum (c.loop-sum.invariant lengths h) c.front_of-place.result c.front_of-place.ensures.place c.skipped.result c.saturating_add-sum.result
    c.skipped.ensures c.saturating_add-sum.ensures c.in-Some.right.now c.saturating_add-sum-in-loop-sum.result c.in-Some.ensures c.saturating_add-sum-in-loop-sum.ensures

pub returns : goal.returns
returns c lengths h =
    counted_full c.args.ahead.now.grammar.now c.args.ahead.now.b c.args.closes.now h.ll1 h.member.0 h.member.1 c.loop-sum.form.now c.loop-sum.sum
    (let end = c.loop-sum-test.false in omega arith) (c.loop-sum.invariant lengths h)
