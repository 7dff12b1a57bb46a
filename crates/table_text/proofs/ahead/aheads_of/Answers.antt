use Rattle.std.proofs.Common.{◌≡◌, ◌∷◌, ℕ, List, [], Some, length, slice_get, sym, ap, subst, arith, length-append}
use Rattle.table_text.specs.Ahead.{IsAhead}
use Rattle.table_text.specs.declared.ahead.Ahead.{Ahead}
use Rattle.table_text.proofs.Growing.{one_more_there}
use Rattle.table_text.proofs.ahead.aheads_of.Goals as goal

pub loop-b-preserved : goal.loop-b-preserved
loop-b-preserved c =
    let old : List Ahead = c.loop-b.aheads.items in
    let x : Ahead = c.in_ok-ahead_of.field-0 in
    let pushed = ap length c.in_ok-push.ensures.items in
    let more = length-append old (x ∷ []) in
    let len : length old ≡ c.loop-b.b = c.loop-b.invariant.len in
    record {
      len = omega (arith, pushed, more, len);
      each = subst (λ (xs : List Ahead). (n : ℕ) (ahead : Ahead) → slice_get xs n ≡ Some ahead → IsAhead c.args.grammar.now n ahead) (sym c.in_ok-push.ensures.items)
          (one_more_there (IsAhead c.args.grammar.now) old x c.loop-b.b len c.loop-b.invariant.each (c.in_ok-ahead_of.ensures c.loop-b.b (c.requires.table.columns c.loop-b.b c.column.result.now c.column.ensures)));
    }
