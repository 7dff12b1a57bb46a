use Rattle.std.proofs.Common.{◌≡◌, sym, ap, ◌∙◌}
use Rattle.source_meaning.specs.Ast.{arg}
use Rattle.tree_interpreter.specs.Trees.{expr_of, args_of}
use Rattle.tree_interpreter.proofs.AtOnce.{puts_one, puts_more}
use Rattle.tree_interpreter.proofs.rests.OpenCall.known_arguments.Goals as goal

pub loop-left-preserved : goal.loop-left-preserved
loop-left-preserved c =
    let is : args_of c.loop-left.left.now ≡ arg (expr_of c.deref.result.now) (args_of c.deref-left.result.now) = ap (λ es. args_of es) c.in-Then.is ∙ (λ i. arg (expr_of (sym c.deref.ensures i)) (args_of (sym c.deref-left.ensures i))) in
    puts_more c.args.self.now _ _ _ _ _ _ c.loop-left.invariant
    (puts_one c.args.self.now c.loop-left.values.items c.push.new.self.items (expr_of c.deref.result.now) c.in-Some.value (args_of c.loop-left.left.now) (args_of c.deref-left.result.now) is (rw c.in-Some.is at c.simple.ensures) c.in_ok-push.ensures.items)
