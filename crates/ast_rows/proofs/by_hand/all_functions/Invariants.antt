use Rattle.std.proofs.Common.{◌≡◌, filter}
use Rattle.std.specs.List.{range_with_len}
use Rattle.ast_rows.specs.Laws.FunctionRows.{is_function_at}
use Rattle.ast_rows.proofs.by_hand.all_functions.Given as goal

abbrev pub invariant-loop-k : goal.invariant-loop-k
invariant-loop-k l = l.rows.items ≡ filter (is_function_at l.kinds) (range_with_len 0 l.k)
