use Rattle.std.proofs.Common.{sym, subst, arith}
use Rattle.llp_tables.specs.Tables.{IsLeastLookbackConflict}
use Rattle.llp_tables.proofs.LookbackConflicts.{no_conflict, least_conflict}
use Rattle.llp_tables.proofs.lookback_cells.least_lookback_conflict.Goals as goal

pub returns-in-Some : goal.returns-in-Some
returns-in-Some c =
    let g = c.args.grammar.now in
    let k = c.in-Some.conflict in
    let found = rw c.in-Some.is at c.in_ok-conflict.ensures in
    subst (λ a. IsLeastLookbackConflict g a k.b k.first k.second) (sym found.0)
    (least_conflict g c.args.lookbacks.now c.requires.lookbacks c.requires.well_formed c.requires.reduced c.loop-a.a k.b k.first k.second c.loop-a.invariant found.1)

pub returns : goal.returns
returns c =
    let g = c.args.grammar.now in
    let e = c.width_of-count.ensures in
    let end = c.loop-a-test.false in
    let bound = c.loop-a.auto.a-end in
    no_conflict g c.args.lookbacks.now c.requires.lookbacks c.requires.well_formed c.requires.reduced c.loop-a.a (omega arith) c.loop-a.invariant
