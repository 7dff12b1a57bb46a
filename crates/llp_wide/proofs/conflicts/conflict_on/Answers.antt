use Rattle.std.proofs.Common.{◌<◌, ◌+◌, ℕ, ap, sym, length, subst, arith}
use Rattle.grammar_file.specs.declared.symbols.Symbol.TheVariants.{Terminal}
use Rattle.llp_tables.specs.Lookbacks.{HasNoTwo, cells_at}
use Rattle.llp_wide.specs.WideConflicts.{IsLeastTwoIn}
use Rattle.llp_wide.proofs.Conflicting.{one_everywhere, least_on}
use Rattle.llp_wide.proofs.conflicts.conflict_on.Goals as goal

pub returns-in-Some : goal.returns-in-Some
returns-in-Some c =
    let g = c.args.grammar.now in
    let classes = c.args.classes.now in
    let k = c.in-Some.conflict in
    let found = rw c.in-Some.is at c.in_ok-conflict.ensures in
    least_on g c.requires.well_formed c.args.b classes c.requires.classes (length g.terminals + 2) k (omega arith) found.1
    (subst (λ (z : ℕ). (y d : ℕ) → y < z → d < length g.terminals + 2 → HasNoTwo (cells_at classes y (Terminal d))) (sym found.0) c.loop-z.invariant)
    (subst (λ (z : ℕ). IsLeastTwoIn classes z k.a k.first k.second) (sym found.0) found.2)

pub returns : goal.returns
returns c =
    let g = c.args.grammar.now in
    let e = ap length c.terminals.ensures.names in
    let end = c.loop-z-test.false in
    let bound = c.loop-z.auto.z-end in
    one_everywhere g c.requires.well_formed c.args.b c.args.classes.now c.requires.classes c.loop-z.z (length g.terminals + 2) (omega arith) (omega arith) c.loop-z.invariant
