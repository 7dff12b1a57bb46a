use Rattle.std.proofs.Common.{sym, subst}
use Rattle.ll1_sets.specs.Predict.{IsPredicted}
use Rattle.ll1_sets.specs.Conflicts.{ArePredictedTo}
use Rattle.ll1_sets.proofs.PredictionLists.{predicted_no}
use Rattle.ll1_sets.proofs.sets.Sets.add_production.Goals as goal

pub returns-in-Some : goal.returns-in-Some
returns-in-Some c = λ n e h. c.add.ensures c.args.self.now.grammar.now n e c.in-Some.ensures.1 h

pub returns-in_default : goal.returns-in_default
returns-in_default c = λ n e h.
    let g = c.args.self.now.grammar.now in
    let b = c.args.self.now.b in
    subst (λ p. ArePredictedTo g p b c.args.found.now.predictions.items c.args.found.now.conflict) (sym e)
    (predicted_no g b n c.args.found.now.predictions.items c.args.found.now.conflict h (λ a k. c.in_default.ensures a (subst (λ p. IsPredicted g a p b) (sym e) k)))
