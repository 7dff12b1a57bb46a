use Rattle.std.proofs.Common.{◌≡◌, ◌+◌, ℕ, [], ◌∷◌, length, Some, slice_get, sym, subst, ◌∙◌, ap, arith, length-append}
use Rattle.std.specs.Prelude.{List}
use Rattle.ll1_sets.specs.Conflicts.{LeastBelow}
use Rattle.ll1_sets.specs.Table.{Column, IsColumn}
use Rattle.ll1_sets.proofs.TableLists.{column_more}
use Rattle.ll1_sets.proofs.table.columns_of.Goals as goal

pub loop-b-preserved : goal.loop-b-preserved
loop-b-preserved c =
    let g = c.args.grammar.now in
    let i = c.loop-b.invariant in
    let old = c.loop-b.columns.items in
    let next = c.in_ok-column.column in
    let pushed = c.in_ok-push.ensures.items in
    record {
      width = ap length pushed ∙ (length-append old (next ∷ []) ∙ ap (λ n. n + 1) i.width);
      columns = subst (λ (cs : List Column). (k : ℕ) (column : Column) → slice_get cs k ≡ Some column → IsColumn g k column) (sym pushed) (column_more g old c.loop-b.b next i.width i.columns c.in_ok-column.ensures.column);
      least = c.lesser-best.ensures g c.loop-b.b i.least c.in_ok-column.ensures.conflict;
    }

pub returns-clause-conflict : goal.returns-clause-conflict
returns-clause-conflict c =
    let e = c.width_of-width.ensures in
    let end = c.loop-b-test.false in
    let bound = c.loop-b.auto.b-end in
    subst (λ n. LeastBelow c.args.grammar.now n c.loop-b.best) (omega arith) c.loop-b.invariant.least
