use Rattle.std.proofs.Common.{◌<◌, ◌∙◌, ◌++◌, ◌+◌, ◌-◌, ap, arith, length, List, ℕ}
use Rattle.std.specs.List.{flat_map, range_with_len}
use Rattle.pass_page.specs.Page.{node_at}
use Rattle.pass_page.proofs.Told.{one_more}
use Rattle.pass_page.proofs.tree.push_rows.Goals as goal

pub loop-k-preserved : goal.loop-k-preserved
loop-k-preserved c =
    let many = length c.args.rows.now in
    let within : c.loop-k.k < many = omega (arith, c.loop-k-test.true, c.len-k-end.ensures) in
    ap (λ (out : List ℕ). out ++ flat_map (node_at c.args.rows.now c.args.levels.now) (range_with_len (c.loop-k.k + 1) (many - (c.loop-k.k + 1)))) c.in_ok-push_row.ensures
    ∙ one_more (node_at c.args.rows.now c.args.levels.now) c.loop-k.out.items c.loop-k.k many within
    ∙ c.loop-k.invariant
