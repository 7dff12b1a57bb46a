use Rattle.std.proofs.Common.{subst}
use Rattle.llp_wide.specs.WideConflicts.{LeastWideBelow, LeastWideOn}
use Rattle.llp_wide.proofs.Conflicting.{first_wide, none_wide, later_wide, taken_wide}
use Rattle.llp_wide.proofs.conflicts.lesser.Goals as goal

pub returns-in-None-default : goal.returns-in-None-default
returns-in-None-default c = λ g n b o. first_wide g n (subst (LeastWideBelow g n) c.in-None-default.is-0 b) c.args.next o

pub returns-in-Some-None : goal.returns-in-Some-None
returns-in-Some-None c = λ g n b o.
    let none = subst (LeastWideOn g n) c.in-Some-None.is-1 o in
    none_wide g n c.in-Some-None.x (subst (LeastWideBelow g n) c.in-Some-None.is-0 b) none

pub returns-then-is_lesser : goal.returns-then-is_lesser
returns-then-is_lesser c = λ g n b o.
    let x = subst (LeastWideBelow g n) c.in-Some-Some.is-0 b in
    let y = subst (LeastWideOn g n) c.in-Some-Some.is-1 o in
    taken_wide g n c.in-Some-Some.x c.in-Some-Some.y x y (c.is_lesser.ensures.yes c.if-is_lesser.true)

pub returns-else-is_lesser : goal.returns-else-is_lesser
returns-else-is_lesser c = λ g n b o.
    let x = subst (LeastWideBelow g n) c.in-Some-Some.is-0 b in
    let y = subst (LeastWideOn g n) c.in-Some-Some.is-1 o in
    later_wide g n c.in-Some-Some.x c.in-Some-Some.y x y (c.is_lesser.ensures.other c.if-is_lesser.false)
