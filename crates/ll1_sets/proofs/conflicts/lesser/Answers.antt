use Rattle.std.proofs.Common.{subst, arith}
use Rattle.ll1_sets.specs.Conflicts.{LeastBelow, LeastOn}
use Rattle.ll1_sets.proofs.PredictSets.{first_one, kept, taken}
use Rattle.ll1_sets.proofs.conflicts.lesser.Goals as goal

pub returns-in-None-default : goal.returns-in-None-default
returns-in-None-default c = λ g n b o. first_one g n (subst (LeastBelow g n) c.in-None-default.is-0 b) c.args.next o

pub returns-in-Some-None : goal.returns-in-Some-None
returns-in-Some-None c = λ g n b o.
    let none = subst (LeastOn g n) c.in-Some-None.is-1 o in
    kept g n c.in-Some-None.x (subst (LeastBelow g n) c.in-Some-None.is-0 b) (λ a l. none a)

pub returns-then-y-x : goal.returns-then-y-x
returns-then-y-x c = λ g n b o.
    let x = subst (LeastBelow g n) c.in-Some-Some.is-0 b in
    let y = subst (LeastOn g n) c.in-Some-Some.is-1 o in
    let l = c.if-y-x.true in
    taken g n c.in-Some-Some.y (λ a t i m. x.no_lesser_nonterminal a t (omega arith) m) y

pub returns-else-y-x : goal.returns-else-y-x
returns-else-y-x c = λ g n b o.
    let x = subst (LeastBelow g n) c.in-Some-Some.is-0 b in
    let y = subst (LeastOn g n) c.in-Some-Some.is-1 o in
    let l = c.if-y-x.false in
    kept g n c.in-Some-Some.x x (λ a i. y.no_lesser_nonterminal a (omega arith))
