use Rattle.std.proofs.Common.{◌≡◌, ◌+◌, ◌∷◌, ◌<◌, ℕ, List, [], length, slice_index_or, sym, ap, subst, arith, length-append}
use Rattle.grammar_file.specs.declared.symbols.Symbol.{Symbol}
use Rattle.table_text.specs.Ahead.{IsLeftBy}
use Rattle.table_text.proofs.Growing.{one_more}
use Rattle.table_text.proofs.ahead.all_opens.Goals as goal

pub loop-a-preserved : goal.loop-a-preserved
loop-a-preserved c =
    let old : List (List Symbol) = c.loop-a.opens.items in
    let x : List Symbol = c.in_ok-opens_of.field-0 in
    let pushed = ap length c.in_ok-push.ensures.items in
    let more = length-append old (x ∷ []) in
    let len : length old ≡ c.loop-a.a = c.loop-a.invariant.len in
    record {
      len = omega (arith, pushed, more, len);
      each = subst (λ (xs : List (List Symbol)). (n : ℕ) → n < c.loop-a.a + 1 → IsLeftBy c.args.grammar.now c.args.first.now c.args.predictions.now n (slice_index_or xs n [])) (sym c.in_ok-push.ensures.items)
          (one_more (IsLeftBy c.args.grammar.now c.args.first.now c.args.predictions.now) old x [] c.loop-a.a len c.loop-a.invariant.each c.in_ok-opens_of.ensures);
    }

pub returns : goal.returns
returns c = λ n h. c.loop-a.invariant.each n (omega (arith, h, c.loop-a-test.false, c.loop-a.auto.a-end, c.nonterminal_count-a-end.ensures))
