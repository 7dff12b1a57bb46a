use Rattle.std.proofs.Common.{◌≡◌, ◌++◌, sym, ap, ◌∙◌, length, take, drop, arith}
use Rattle.std.proofs.Math.Seq.{take-append_seam}
use Rattle.tree_interpreter.specs.Trees.{expr_of}
use Rattle.tree_interpreter.specs.Running.{stored_numbered}
use Rattle.tree_interpreter.proofs.AtOnce.{assign_leaves}
use Rattle.tree_interpreter.proofs.rests.OpenCall.assigned.Goals as goal

pub returns-in_ok-value-in-Assign : goal.returns-in_ok-value-in-Assign
returns-in_ok-value-in-Assign c =
    let many : c.args.self.now.table.len ≡ length c.store.new.table = omega (arith, c.deref_mut.ensures.len, c.store.auto.table, ap length c.deref_mut.ensures.value) in
    rw (c.in-Assign.is, sym c.deref.ensures, sym c.deref-in-Assign.ensures)
    (assign_leaves c.args.self.now c.in-Assign.at (expr_of c.deref-in-Assign.result.now) (expr_of c.deref.result.now) c.target-number.result c.in_ok-value-in-Assign.value _ c.target-number.ensures (rw c.in_ok-value-in-Assign.was at c.simple.ensures)
    (ap (λ n. take n (c.store.new.table ++ drop (length c.store.new.table) c.args.self.now.table.items)) many ∙ take-append_seam c.store.new.table _ ∙ c.store.ensures ∙ ap (λ t. stored_numbered c.target-number.result c.in_ok-value-in-Assign.value t) c.deref_mut.ensures.value))
