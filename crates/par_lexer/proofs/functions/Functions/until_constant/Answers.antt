use Rattle.std.proofs.Common.{◌<◌, [], length, subst, sym, ◌∙◌, arith}
use Rattle.state_monoid.specs.Numbering.{composition}
use Rattle.par_lexer.proofs.Numbered.{number_below, number_more}
use Rattle.par_lexer.proofs.functions.Functions.until_constant.Goals as goal

pub loop-place-init : goal.loop-place-init
loop-place-init c =
    let m = c.args.self.now.compositions in
    (c.unit-number.ensures, subst (λ n. n < length m.functions) (sym c.unit-number.ensures) (number_below m [] (λ k d h. absurd (omega arith))))

pub returns-then-is_marked-clause-number : goal.returns-then-is_marked-clause-number
returns-then-is_marked-clause-number c =
    let m = c.args.self.now.compositions in
    c.join-number.ensures.value ∙ ((λ i. (composition m).join (c.loop-place.invariant.0 i) (c.of_byte-next.ensures.value i)) ∙ sym (number_more m c.args.bytes.now c.loop-place.place (omega arith)))

pub loop-place-preserved : goal.loop-place-preserved
loop-place-preserved c =
    let m = c.args.self.now.compositions in (
      c.join-number.ensures.value ∙ ((λ i. (composition m).join (c.loop-place.invariant.0 i) (c.of_byte-next.ensures.value i)) ∙ sym (number_more m c.args.bytes.now c.loop-place.place (omega arith))),
      c.join-number.ensures.within,
    )
