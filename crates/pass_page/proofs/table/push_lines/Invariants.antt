use Rattle.std.proofs.Common.{◌≡◌, ◌-◌, ◌++◌}
use Rattle.std.specs.List.{flat_map, range_with_len}
use Rattle.pass_page.specs.Page.{line}
use Rattle.pass_page.proofs.table.push_lines.Given as goal

abbrev pub invariant-loop-k : goal.invariant-loop-k
invariant-loop-k l = l.out.items ++ flat_map (line l.columns) (range_with_len l.k (l.lines - l.k)) ≡ l.initial.out.items ++ flat_map (line l.columns) (range_with_len 0 l.lines)
