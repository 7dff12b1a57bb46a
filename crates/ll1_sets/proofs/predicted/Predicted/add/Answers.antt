use Rattle.std.proofs.Common.{None, Some, set, sym, subst, ◌∙◌}
use Rattle.std.proofs.lemmas.List.{get_or_default}
use Rattle.ll1_sets.specs.Predict.{IsPredicted}
use Rattle.ll1_sets.specs.Conflicts.{ArePredictedTo}
use Rattle.ll1_sets.proofs.PredictionLists.{predicted_first, predicted_settled, predicted_again}
use Rattle.ll1_sets.proofs.predicted.Predicted.add.Goals as goal

pub returns-in-None : goal.returns-in-None
returns-in-None c = λ g n e here h.
    let old = c.args.self.now in
    let a = c.args.a in
    let b = c.args.b in
    subst (λ p. ArePredictedTo g p b (set old.predictions.items a (Some p)) old.conflict) (sym e)
    (predicted_first g b n old.predictions.items old.conflict h a (subst (λ p. IsPredicted g a p b) e here) c.requires (get_or_default c.args.self.now.predictions.items c.args.a None c.index.result.now c.requires ∙ (sym c.index.ensures ∙ c.in-None.is)))

pub returns-then-not-is_settled_at : goal.returns-then-not-is_settled_at
returns-then-not-is_settled_at c = λ g n e here h.
    let old = c.args.self.now in
    let a = c.args.a in
    let b = c.args.b in
    subst (λ p. ArePredictedTo g p b old.predictions.items (Some (record { nonterminal = a; b = b; p1 = c.in-Some.p1; p2 = p }))) (sym e)
    (predicted_again g b n old.predictions.items old.conflict h a (subst (λ p. IsPredicted g a p b) e here) c.in-Some.p1 (get_or_default c.args.self.now.predictions.items c.args.a None c.index.result.now c.requires ∙ (sym c.index.ensures ∙ c.in-Some.is)) (c.is_settled_at.ensures.other c.if-not-is_settled_at.true))

pub returns-else-not-is_settled_at : goal.returns-else-not-is_settled_at
returns-else-not-is_settled_at c = λ g n e here h.
    let old = c.args.self.now in
    let a = c.args.a in
    let b = c.args.b in
    let t = c.is_settled_at.ensures.yes c.if-not-is_settled_at.false in
    subst (λ p. ArePredictedTo g p b old.predictions.items old.conflict) (sym e)
    (predicted_settled g b n old.predictions.items old.conflict h a (subst (λ p. IsPredicted g a p b) e here) c.in-Some.p1 (get_or_default c.args.self.now.predictions.items c.args.a None c.index.result.now c.requires ∙ (sym c.index.ensures ∙ c.in-Some.is)) t.0 t.1 t.2)
