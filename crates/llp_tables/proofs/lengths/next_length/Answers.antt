use Rattle.std.proofs.Common.{not, None, is_some, get_or, sym, ap, ◌∙◌, subst, arith}
use Rattle.std.proofs.lemmas.Bool.{true≢false}
use Rattle.std.proofs.lemmas.Option.{slice_get_within}
use Rattle.ll1_sets.specs.Marking.{all_vanish}
use Rattle.llp_tables.specs.Lengths.{counted, IsSum, IsNextLength}
use Rattle.llp_tables.proofs.EmptyLengths.{get_or-counted, rule_at, none_of, next_sum, closed_step}
use Rattle.llp_tables.proofs.lengths.next_length.Goals as goal
use Rattle.llp_tables.proofs.lengths.next_length.Goals.{then-is_none+in_default, else-is_none}

pub returns-in-Some : goal.returns-in-Some
returns-in-Some c =
    let rule = c.production-item.result in
    let left = c.left-left.ensures in
    let lengths = c.args.lengths.now in
    let none = ap (λ a. get_or lengths a None) (sym left) ∙ (sym c.length_of.ensures ∙ none_of c.length_of.result (c.is_none.ensures ∙ ap not c.if-is_none.true)) in
    let next = next_sum c.args.productions.now lengths c.loop-production.production-index rule c.in-Some.length
    (sym (rule_at c.args.productions.now c.loop-production.production-index rule c.loop-production-test.true c.production-item.is)) none
    (subst (λ r. IsSum lengths r c.in-Some.length) c.right.ensures c.in-Some.ensures) in
    subst (λ a. IsNextLength c.args.productions.now lengths a c.saturating_add.result) (sym left) (subst (IsNextLength c.args.productions.now lengths rule.left) (sym c.saturating_add.ensures) next)

pub loop-production-preserved : goal.loop-production-preserved
loop-production-preserved c =
    let rule = c.production-item.result in
    let lengths = c.args.lengths.now in
    closed_step c.args.productions.now lengths c.loop-production.production-index rule c.loop-production-test.true c.production-item.is c.loop-production.invariant
    (elim c.if-is_none.branch [
      | then-is_none+in_default w ↦ λ v. absurd (true≢false (sym v ∙ (ap (all_vanish (counted lengths)) (sym w.right.ensures) ∙ w.in_default.ensures)))
      | else-is_none w ↦ λ v.
          get_or-counted lengths rule.left
          ∙ (ap (λ a. is_some (get_or lengths a None)) (sym c.left-left.ensures) ∙ (ap is_some (sym c.length_of.ensures) ∙ (c.is_none.ensures ∙ ap not w.if-is_none.false)))
    ])

pub returns : goal.returns
returns c place rule at =
    let lt = slice_get_within c.args.productions.now place rule at in
    let end = c.loop-production-test.false in
    c.loop-production.invariant place rule (omega arith) at
