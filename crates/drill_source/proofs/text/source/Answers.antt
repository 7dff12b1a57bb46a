use Rattle.std.proofs.Common.{◌≡◌, ◌∙◌, ◌+◌, ◌-◌, ◌++◌, suc, ap, sym, arith, append_assoc}
use Rattle.drill_source.specs.Drill.{function_lines, main_line}
use Rattle.drill_source.proofs.NextLine.{next_line}
use Rattle.drill_source.proofs.text.source.Goals as goal

pub loop-number-preserved : goal.loop-number-preserved
loop-number-preserved c =
    let before = c.loop-number.text.items in
    let left = c.args.functions - (c.loop-number.number + 1) in
    let within = c.loop-number-test.true in
    let one_more : c.args.functions - c.loop-number.number ≡ suc left = omega arith in
    c.loop-number.invariant
    ∙ ap (λ rest. before ++ rest) (next_line (c.args.functions - c.loop-number.number) left c.loop-number.number c.loop-number.generator.state one_more)
    ∙ sym (append_assoc before _ _)
    ∙ (λ i. sym c.in_ok-push_function.ensures.line i ++ function_lines left (c.loop-number.number + 1) (sym c.push_function.ensures.state i))

pub returns : goal.returns
returns c =
    let behind = c.loop-number-test.false in
    let within = c.loop-number.auto.number-end in
    let none : c.args.functions - c.loop-number.number ≡ 0 = omega arith in
    let called = c.saturating_sub.ensures in
    let last : c.loop-number.number - 1 ≡ c.saturating_sub.result = omega arith in
    c.in_ok-push_main.ensures
    ∙ ap (λ j. c.loop-number.text.items ++ main_line j) (sym last)
    ∙ sym (c.loop-number.invariant ∙ ap (λ n. c.loop-number.text.items ++ function_lines n c.loop-number.number c.loop-number.generator.state) none)
