use Rattle.std.proofs.Common.{◌≡◌, suc, ◌+◌, ◌∷◌, [], ◌++◌, length, map, sym, ap, ◌∙◌, arith}
use Rattle.std.specs.List.{range_with_len}
use Rattle.std.proofs.lemmas.List.FromFn.{map-range_with_len_more}
use Rattle.ast_rows.specs.FunctionRows.{owner_at}
use Rattle.ast_rows.proofs.by_hand.all_owners.Goals as goal

pub loop-k-preserved : goal.loop-k-preserved
loop-k-preserved c =
    let kinds = c.args.kinds.now in
    let k = c.loop-k.k in
    let inv = c.loop-k.invariant in
    let next : suc k ≡ k + 1 = omega arith in
    let low = c.mark-count.ensures.low in
    let few = inv.2 in (
      c.in_ok-push.ensures.items ∙ (λ i. inv.0 i ++ inv.1 i ∷ []) ∙ sym (map-range_with_len_more (owner_at kinds) 0 k k (omega arith)),
      (λ i. inv.1 i + c.mark-count.ensures.value i) ∙ ap (owner_at kinds) next,
      omega arith,
    )

pub returns : goal.returns
returns c =
    let kinds = c.args.kinds.now in
    let k = c.loop-k.k in
    let inv = c.loop-k.invariant in
    let all : k ≡ length kinds = (let le = c.loop-k.auto.k-end in let stop = c.loop-k-test.false in omega arith) in
    c.in_ok-push-2.ensures.items
    ∙ (λ i. inv.0 i ++ inv.1 i ∷ [])
    ∙ sym (map-range_with_len_more (owner_at kinds) 0 k k (omega arith))
    ∙ ap (λ n. map (owner_at kinds) (range_with_len 0 (n + 1))) all
