use Rattle.ll1_sets.specs.Laws.LeftRecursion.{not_left_recursive}
use Rattle.ll1_sets.proofs.grammar_sets.Ll1Sets.of.Goals as goal

pub returns-in-Some-clause-served : goal.returns-in-Some-clause-served
returns-in-Some-clause-served c = λ ll1.
    let has = c.in_ok-nullable.ensures in
    let recursive = rw c.in-Some.is at c.in_ok-a.ensures in
    absurd (not_left_recursive c.args.grammar.now ll1 has.well_formed has.reduced c.in-Some.a recursive.0)
