use Rattle.std.proofs.Common.{◌≡◌, cond, ◌∷◌, [], ◌++◌, length, filter, sym, ap, ◌∙◌, arith}
use Rattle.std.specs.List.{range_with_len}
use Rattle.ast_rows.specs.Laws.FunctionRows.{functions_kept, is_function_at, kept_more}
use Rattle.ast_rows.proofs.by_hand.all_functions.Goals as goal

pub loop-k-preserved : goal.loop-k-preserved
loop-k-preserved c =
    let k = c.loop-k.k in
    c.in_ok-push_if.ensures ∙ (λ i. c.loop-k.invariant i ++ cond (c.is_function_row.ensures i) (k ∷ []) []) ∙ sym (kept_more (is_function_at c.args.kinds.now) k)

pub returns : goal.returns
returns c =
    let kinds = c.args.kinds.now in
    let all : c.loop-k.k ≡ length kinds = (let le = c.loop-k.auto.k-end in let stop = c.loop-k-test.false in omega arith) in
    c.loop-k.invariant ∙ ap (λ n. filter (is_function_at kinds) (range_with_len 0 n)) all ∙ sym (functions_kept kinds)
