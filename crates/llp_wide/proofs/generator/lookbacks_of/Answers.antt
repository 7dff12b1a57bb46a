use Rattle.std.proofs.Common.{sym, subst}
use Rattle.llp_wide.specs.WideFaults.{IsWideFault}
use Rattle.llp_wide.proofs.StackPieceLists.{no_fault_of_served}
use Rattle.llp_wide.proofs.generator.lookbacks_of.Goals as goal

pub returns-in-Some-clause-served : goal.returns-in-Some-clause-served
returns-in-Some-clause-served c = λ llp.
    let g = c.args.grammar.now in
    let has = c.requires in
    let least = rw c.in-Some.is at c.in_ok-conflict.ensures.conflict in
    absurd (no_fault_of_served g has.well_formed has.reduced has.ll1 llp c.wide_fault.result (subst (IsWideFault g) (sym c.wide_fault.ensures) (has.not_left_recursive, has.ll1, least)))
