use Rattle.std.proofs.Common.{sym}
use Rattle.tree_interpreter.specs.Trees.{expr_of}
use Rattle.tree_interpreter.proofs.AtOnce.{unary_has, binary_has}
use Rattle.tree_interpreter.proofs.rests.OpenCall.+value_within.Goals as goal

pub returns-in_ok-x-in-Unary : goal.returns-in_ok-x-in-Unary
returns-in_ok-x-in-Unary t c =
    rw (c.in-Unary.is, sym c.deref.ensures, c.apply_unary.ensures)
    (unary_has c.args.self.now c.in-Unary.at c.in-Unary.op (expr_of c.deref.result.now) c.in_ok-x-in-Unary.x (rw c.in_ok-x-in-Unary.was at c.value_within.ensures))

pub returns-in_ok-y-in-Binary : goal.returns-in_ok-y-in-Binary
returns-in_ok-y-in-Binary t c =
    rw (c.in-Binary.is, sym c.deref-in-Binary.ensures, sym c.deref-in-Binary-2.ensures, c.apply_binary.ensures)
    (binary_has c.args.self.now c.in-Binary.at c.in-Binary.op (expr_of c.deref-in-Binary.result.now) (expr_of c.deref-in-Binary-2.result.now) c.in_ok-x-in-Binary.x c.in_ok-y-in-Binary.y (rw c.in_ok-x-in-Binary.was at c.value_within-in-Binary.ensures) (rw c.in_ok-y-in-Binary.was at c.value_within-in-Binary-2.ensures))
