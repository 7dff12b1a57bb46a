use Rattle.std.proofs.Common.{◌≡◌, ◌-◌, ◌++◌, length}
use Rattle.std.specs.List.{flat_map, range_with_len}
use Rattle.pass_page.specs.Page.{node_at}
use Rattle.pass_page.proofs.tree.push_rows.Given as goal

abbrev pub invariant-loop-k : goal.invariant-loop-k
invariant-loop-k l =
    l.out.items ++ flat_map (node_at l.rows l.levels) (range_with_len l.k (length l.rows - l.k)) ≡ l.initial.out.items ++ flat_map (node_at l.rows l.levels) (range_with_len 0 (length l.rows))
