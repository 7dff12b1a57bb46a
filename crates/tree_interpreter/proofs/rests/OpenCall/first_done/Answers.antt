use Rattle.std.proofs.Common.{◌≡◌, sym, ap, ◌∙◌, arith}
use Rattle.source_meaning.specs.Ast.{eval, stmt}
use Rattle.tree_interpreter.specs.Trees.{expr_of, stmt_of, stmts_of}
use Rattle.tree_interpreter.specs.Numbering.{next_in}
use Rattle.tree_interpreter.specs.Weights.{stmts_weight}
use Rattle.tree_interpreter.proofs.Numbered.{both_numbered_so}
use Rattle.tree_interpreter.proofs.AtOnce.{leads_one}
use Rattle.tree_interpreter.proofs.rests.OpenCall.first_done.Goals as goal

pub invariant_of-result : goal.invariant_of-result
invariant_of-result c =
    let numbered = both_numbered_so _ _ _ (next_in c.args.placed.numbering.now) (stmt_of c.in-Next.first.value) (stmts_of c.in-Next.rest.value) (rw c.in-Next.is at c.args.placed.numbered) c.parts_of.ensures.0 c.parts_of.ensures.1 in
    record { numbered = rw c.deref-2.ensures numbered.2 }

pub returns : goal.returns
returns c =
    let numbered = both_numbered_so _ _ _ (next_in c.args.placed.numbering.now) (eval (expr_of c.in-Eval.value)) (stmts_of c.in-Next.rest.value) (rw (c.in-Next.is, sym c.deref.ensures, c.in-Eval.is) at c.args.placed.numbered) c.parts_of.ensures.0 c.parts_of.ensures.1 in
    let is : stmts_of c.args.placed.statements.now ≡ stmt (eval (expr_of c.in-Eval.value)) (stmts_of c.deref-2.result.now) = ap (λ ss. stmts_of ss) c.in-Next.is ∙ (λ i. stmt (stmt_of ((sym c.deref.ensures ∙ c.in-Eval.is) i)) (stmts_of (sym c.deref-2.ensures i))) in
    (leads_one c.args.self.now _ c.args.placed _ (expr_of c.in-Eval.value) c.in_ok-assigned.field-0 is numbered.3 (rw c.in_ok-assigned.was at c.assigned.ensures), omega (arith, ap (λ ss. stmts_weight 0 0 ss) is))
