use Rattle.std.proofs.Common.{sym}
use Rattle.tree_interpreter.proofs.Steps.{unary_goes, binary_goes, and_goes, or_goes, assign_goes}
use Rattle.tree_interpreter.proofs.interpreter.Walker.evaluate.Goals as goal

pub returns-in-Unary : goal.returns-in-Unary
returns-in-Unary c = rw (c.in-Unary.is, sym c.deref-in-Unary.ensures) (unary_goes _ _ _ _ _ _ c.evaluate_then.ensures)

pub returns-in-Binary : goal.returns-in-Binary
returns-in-Binary c = rw (c.in-Binary.is, sym c.deref-in-Binary.ensures, sym c.deref-in-Binary-2.ensures) (binary_goes _ _ _ _ _ _ _ c.operate.ensures)

pub returns-in-And : goal.returns-in-And
returns-in-And c = rw (c.in-And.is, sym c.deref-in-And.ensures, sym c.deref-in-And-2.ensures) (and_goes _ _ _ _ _ _ c.compute_then.ensures)

pub returns-in-Or : goal.returns-in-Or
returns-in-Or c = rw (c.in-Or.is, sym c.deref-in-Or.ensures, sym c.deref-in-Or-2.ensures) (or_goes _ _ _ _ _ _ c.compute_then-in-Or.ensures)

pub returns-in-Assign : goal.returns-in-Assign
returns-in-Assign c = rw (c.in-Assign.is, sym c.deref-in-Assign.ensures, sym c.deref-in-Assign-2.ensures) (assign_goes _ _ _ _ _ _ _ c.target-number.ensures c.evaluate_then-in-Assign.ensures)
