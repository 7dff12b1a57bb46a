use Rattle.std.proofs.Common.{◌∙◌, ◌++◌, ◌+◌, ◌-◌, ap, List, ℕ}
use Rattle.std.specs.List.{flat_map, range_with_len}
use Rattle.pass_page.specs.Page.{line}
use Rattle.pass_page.proofs.Told.{one_more}
use Rattle.pass_page.proofs.table.push_lines.Goals as goal

pub loop-k-preserved : goal.loop-k-preserved
loop-k-preserved c =
    ap (λ (out : List ℕ). out ++ flat_map (line c.args.columns.now) (range_with_len (c.loop-k.k + 1) (c.rows_of-lines.result - (c.loop-k.k + 1)))) c.in_ok-push_line.ensures
    ∙ one_more (line c.args.columns.now) c.loop-k.out.items c.loop-k.k c.rows_of-lines.result c.loop-k-test.true
    ∙ c.loop-k.invariant
