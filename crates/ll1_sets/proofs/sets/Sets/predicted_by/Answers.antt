use Rattle.std.proofs.Common.{◌≡◌, ◌<◌, ◌+◌, ◌-◌, length, Some, ap, sym, subst, ◌∙◌, arith}
use Rattle.std.proofs.lemmas.Bool.{true≢false}
use Rattle.std.proofs.lemmas.Option.{slice_get-get_or}
use Rattle.grammar_file.specs.Grammar.{production}
use Rattle.ll1_sets.specs.Marking.{comes_behind}
use Rattle.ll1_sets.proofs.PredictSets.{numbered, passes_predicted, predicted_passes}
use Rattle.ll1_sets.proofs.sets.Sets.predicted_by.Goals as goal

pub returns-then-comes_behind : goal.returns-then-comes_behind
returns-then-comes_behind c =
    let s = c.args.self.now in
    let g = s.grammar.now in
    let rule = c.index-productions-p.result in
    let at : c.args.p - 1 < length c.productions.result.now = let w = c.requires.within in let z = c.requires.positive in let e = ap length c.productions.ensures.rules in omega arith in
    let number : c.args.p - 1 + 1 ≡ c.args.p = let z = c.requires.positive in omega arith in
    let is : production g c.args.p ≡ Some rule = sym (ap (production g) number) ∙ numbered g c.productions.result.now (c.args.p - 1) rule c.productions.ensures.rules (slice_get-get_or c.productions.result.now (c.args.p - 1) rule at ∙ ap Some (sym c.index-productions-p.is)) in
    let left = sym c.left-left.ensures in
    let passes = ap (comes_behind s.nullable.now s.first.now s.follow.now s.b c.left-left.result) (sym c.right.ensures) ∙ (sym c.comes_behind.ensures ∙ c.if-comes_behind.true) in (
      subst (λ n. n < length g.nonterminals) left (c.productions.ensures.well_formed.lefts c.args.p rule is),
      passes_predicted g s.b s.nullable.now s.first.now s.follow.now c.requires.sets c.left-left.result c.args.p rule is left passes,
    )

pub returns-else-comes_behind : goal.returns-else-comes_behind
returns-else-comes_behind c = λ a h.
    let s = c.args.self.now in
    let g = s.grammar.now in
    let rule = c.index-productions-p.result in
    let at : c.args.p - 1 < length c.productions.result.now = let w = c.requires.within in let z = c.requires.positive in let e = ap length c.productions.ensures.rules in omega arith in
    let number : c.args.p - 1 + 1 ≡ c.args.p = let z = c.requires.positive in omega arith in
    let is : production g c.args.p ≡ Some rule = sym (ap (production g) number) ∙ numbered g c.productions.result.now (c.args.p - 1) rule c.productions.ensures.rules (slice_get-get_or c.productions.result.now (c.args.p - 1) rule at ∙ ap Some (sym c.index-productions-p.is)) in
    let t = predicted_passes g s.b s.nullable.now s.first.now s.follow.now c.requires.sets a c.args.p rule is h in
    let left : c.left-left.result ≡ a = c.left-left.ensures ∙ t.0 in
    let passes = sym c.comes_behind.ensures ∙ c.if-comes_behind.false in
    true≢false (sym t.1 ∙ ((λ i. comes_behind s.nullable.now s.first.now s.follow.now s.b (sym left i) (sym c.right.ensures i)) ∙ passes))
