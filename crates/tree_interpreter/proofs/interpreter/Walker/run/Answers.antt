use Rattle.std.proofs.Common.{sym, refl}
use Rattle.tree_interpreter.proofs.Steps.{var_goes, if_goes, if_else_goes, while_goes, return_goes, eval_goes, print_goes, block_goes}
use Rattle.tree_interpreter.proofs.interpreter.Walker.run.Goals as goal

pub returns-in-Var : goal.returns-in-Var
returns-in-Var c = rw (c.in-Var.is, sym c.next.ensures) (var_goes _ _ _ _ _ _ _ _ c.initialize.ensures)

pub returns-in-If : goal.returns-in-If
returns-in-If c = rw (c.in-If.is, sym c.deref.ensures) (if_goes _ _ _ _ _ _ c.decide.ensures)

pub returns-in-IfElse : goal.returns-in-IfElse
returns-in-IfElse c = rw (c.in-IfElse.is, sym c.deref-in-IfElse.ensures, sym c.deref-in-IfElse-2.ensures) (if_else_goes _ _ _ _ _ _ c.decide_between.ensures)

pub returns-in-While : goal.returns-in-While
returns-in-While c = rw (c.in-While.is, sym c.deref-in-While.ensures) (while_goes _ _ _ _ _ refl c.test.ensures)

pub returns-in-Return : goal.returns-in-Return
returns-in-Return c = rw c.in-Return.is (return_goes _ _ _ _ _ _ c.give_back.ensures)

pub returns-in-Block : goal.returns-in-Block
returns-in-Block c = rw c.in-Block.is (block_goes _ _ _ c.in-Block.at _ _ c.begin.ensures)

pub returns-in-Eval : goal.returns-in-Eval
returns-in-Eval c = rw c.in-Eval.is (eval_goes _ _ _ _ _ c.discard.ensures)

pub returns-in-Print : goal.returns-in-Print
returns-in-Print c = rw c.in-Print.is (print_goes _ _ _ _ _ _ c.compute_then.ensures)
