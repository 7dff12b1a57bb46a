use Rattle.std.proofs.Common.{◌∙◌, sym}
use Rattle.source_meaning.specs.Ast.{var}
use Rattle.tree_interpreter.specs.Trees.{expr_of, stmt_of, stmts_of}
use Rattle.tree_interpreter.specs.Numbering.{next_in}
use Rattle.tree_interpreter.proofs.Numbered.{both_numbered_so}
use Rattle.tree_interpreter.proofs.Steps.{other_behind, next_goes, declaration_goes, three}
use Rattle.tree_interpreter.proofs.interpreter.Walker.run_next.Goals as goal

pub invariant_of-push : goal.invariant_of-push
invariant_of-push c =
    let numbered = both_numbered_so _ _ _ (next_in c.args.placed.numbering.now) (stmt_of c.in-Next.first.value) (stmts_of c.in-Next.rest.value) (rw c.in-Next.is at c.args.placed.numbered) c.parts_of.ensures.0 c.parts_of.ensures.1 in
    record { numbered = rw c.deref-in-Var.ensures numbered.2 }

pub invariant_of-follow : goal.invariant_of-follow
invariant_of-follow c =
    let numbered = both_numbered_so _ _ _ (next_in c.args.placed.numbering.now) (stmt_of c.in-Next.first.value) (stmts_of c.in-Next.rest.value) (rw c.in-Next.is at c.args.placed.numbered) c.parts_of.ensures.0 c.parts_of.ensures.1 in
    record { numbered = rw c.deref-in_default.ensures numbered.2 }

pub invariant_of-run : goal.invariant_of-run
invariant_of-run c =
    let numbered = both_numbered_so _ _ _ (next_in c.args.placed.numbering.now) (stmt_of c.in-Next.first.value) (stmts_of c.in-Next.rest.value) (rw c.in-Next.is at c.args.placed.numbered) c.parts_of.ensures.0 c.parts_of.ensures.1 in
    record { numbered = rw c.deref-in_default-2.ensures numbered.0 }

pub returns-in_ok-push-in-Var-3 : goal.returns-in_ok-push-in-Var-3
returns-in_ok-push-in-Var-3 c =
    let numbered = both_numbered_so _ _ _ (next_in c.args.placed.numbering.now) (var c.in-Var.at c.in-Var.name.items c.in-Var.kind (expr_of c.in-Var.value)) (stmts_of c.in-Next.rest.value) (rw (c.in-Next.is, sym c.deref.ensures, c.in-Var.is) at c.args.placed.numbered) c.parts_of.ensures.0 c.parts_of.ensures.1 in
    rw (c.in-Next.is, sym c.deref.ensures, c.in-Var.is, sym c.deref-in-Var.ensures)
    (declaration_goes _ _ _ _ _ _ _ _ _ _ _ c.deref-in-Var-2.ensures.value (c.next_number-number.ensures ∙ numbered.1) numbered.3 (three _ _ _ _ _ _ _ c.in_ok-push-in-Var-3.ensures c.in_ok-push-in-Var-2.ensures c.in_ok-push-in-Var.ensures) c.initialize.ensures)

pub returns-in_ok-follow-in_default : goal.returns-in_ok-follow-in_default
returns-in_ok-follow-in_default c =
    let numbered = both_numbered_so _ _ _ (next_in c.args.placed.numbering.now) (stmt_of c.deref-in_default-2.result.now) (stmts_of c.in-Next.rest.value) (rw (c.in-Next.is, sym c.deref-in_default-2.ensures) at c.args.placed.numbered) c.parts_of.ensures.0 c.parts_of.ensures.1 in
    rw (c.in-Next.is, sym c.deref-in_default-2.ensures, sym c.deref-in_default.ensures)
    (next_goes _ _ _ _ _ _ _ _ numbered.1 (other_behind c.deref-in_default-2.result.now _ (next_in c.args.placed.numbering.now) _ (λ x y z e is. c.in_default.not-Var x y z e (c.deref.ensures ∙ sym c.deref-in_default-2.ensures ∙ is)) numbered.3) c.in_ok-follow-in_default.ensures c.run.ensures)
