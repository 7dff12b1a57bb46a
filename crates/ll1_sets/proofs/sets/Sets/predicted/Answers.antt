use Rattle.std.proofs.Common.{arith, refl}
use Rattle.ll1_sets.proofs.PredictionLists.{predictions_all, least_all}
use Rattle.ll1_sets.proofs.sets.Sets.predicted.Goals as goal

pub returns-clause-predictions : goal.returns-clause-predictions
returns-clause-predictions c =
    let count = c.production_count-i-end.ensures in
    let end = c.loop-i-test.false in
    predictions_all c.args.self.now.grammar.now c.args.self.now.b c.loop-i.i (omega arith) c.loop-i.found.predictions.items c.loop-i.found.conflict c.loop-i.invariant

pub returns-clause-conflict : goal.returns-clause-conflict
returns-clause-conflict c =
    let count = c.production_count-i-end.ensures in
    let end = c.loop-i-test.false in
    least_all c.args.self.now.grammar.now c.args.self.now.b c.loop-i.i (omega arith) c.loop-i.found.conflict c.loop-i.invariant.least

pub loop-i-preserved : goal.loop-i-preserved
loop-i-preserved c = c.add_production.ensures c.loop-i.i refl c.loop-i.invariant
