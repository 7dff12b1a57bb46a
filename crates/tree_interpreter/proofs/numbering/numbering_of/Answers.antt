use Rattle.std.proofs.Common.{◌≡◌, ◌+◌, reverse, ap, sym, ◌∙◌, arith}
use Rattle.source_meaning.specs.Scope.{variables_in}
use Rattle.tree_interpreter.specs.Trees.{stmt_of}
use Rattle.tree_interpreter.specs.Parts.{listed, all_of}
use Rattle.tree_interpreter.specs.Laying.{done, laid}
use Rattle.tree_interpreter.proofs.Laid.{first_laid}
use Rattle.tree_interpreter.proofs.numbering.numbering_of.Goals as goal

pub loop-part-init : goal.loop-part-init
loop-part-init c n is =
    let step = c.in_ok-number_part.ensures.same n (let e : c.args.end ≡ n + (variables_in (stmt_of c.args.s.now) + all_of (listed c.new-parts.result)) = omega (arith, is, ap all_of c.new-parts.ensures) in e) in
    (step.0, step.1 ∙ first_laid n c.args.s (listed c.new-parts.result) _ c.new-parts.ensures (ap reverse c.new.ensures.items))

pub loop-part-preserved : goal.loop-part-preserved
loop-part-preserved c n is =
    let so_far = c.loop-part.invariant n is in
    let next = rw c.in-Some.is at c.pop.ensures in
    let step = c.in_ok-number_part-2.ensures.same n (so_far.0 ∙ ap (λ ps. n + all_of ps) next) in
    (step.0, step.1 ∙ ap (λ ps. laid n ps (done c.loop-part.numbering)) (sym next) ∙ so_far.1)
