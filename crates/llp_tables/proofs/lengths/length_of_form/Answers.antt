use Rattle.std.proofs.Common.{sym, ◌∙◌}
use Rattle.llp_tables.proofs.EmptyLengths.{sum_none, sum_step}
use Rattle.llp_tables.proofs.lengths.length_of_form.Goals as goal

pub returns-in-None : goal.returns-in-None
returns-in-None c = sum_none c.args.lengths.now c.args.form.now c.loop-symbol.symbol-index _ c.loop-symbol-test.true (sym c.length_of.ensures ∙ c.in-None.is)

pub loop-symbol-preserved : goal.loop-symbol-preserved
loop-symbol-preserved c =
    sum_step c.args.lengths.now c.args.form.now c.loop-symbol.symbol-index _ c.loop-symbol-test.true c.loop-symbol.sum c.in-Some.length c.saturating_add-sum.result
    c.loop-symbol.invariant (sym c.length_of.ensures ∙ c.in-Some.is) c.saturating_add-sum.ensures
