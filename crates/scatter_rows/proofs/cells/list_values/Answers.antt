use Rattle.std.proofs.Common.{◌≡◌, ◌+◌, ◌-◌, ◌≤◌, ◌++◌, ◌∷◌, [], ℕ, List, map, get_or, ap, sym, ◌∙◌, arith}
use Rattle.std.specs.List.{range_with_len}
use Rattle.std.specs.Mem.Slots.{slots_items}
use Rattle.std.proofs.lemmas.List.FromFn.{map-range_with_len_more}
use Rattle.chunk_seats.specs.Laws.Totals.{at_get}
use Rattle.scatter_rows.proofs.cells.list_values.Goals as goal

pub overflow_cast-saturating_sub : goal.overflow_cast-saturating_sub
overflow_cast-saturating_sub c =
    let word : get_or (slots_items c.args.closed.now.words) c.loop-c.c 0 ≡ c.word.result = at_get (slots_items c.args.closed.now.words) c.loop-c.c c.word.result c.word.ensures in
    let narrow : get_or (slots_items c.args.closed.now.words) c.loop-c.c 0 ≤ 4294967296 = c.requires.narrow c.loop-c.c in
    omega (arith, word, narrow, c.saturating_sub.ensures)

pub loop-c-preserved : goal.loop-c-preserved
loop-c-preserved c =
    let ws : List ℕ = slots_items c.args.closed.now.words in
    let k : ℕ = c.loop-c.c in
    let f : ℕ → ℕ = λ j. get_or ws j 0 - 1 in
    let word : get_or ws k 0 ≡ c.word.result = at_get ws k c.word.result c.word.ensures in
    let value : c.saturating_sub.result ≡ f k = omega (arith, word, c.saturating_sub.ensures) in
    let z : 0 + k ≡ k = omega arith in
    c.in_ok-push.ensures.items
    ∙ ap (λ (l : List ℕ). l ++ c.saturating_sub.result ∷ []) c.loop-c.invariant
    ∙ ap (λ (y : ℕ). map f (range_with_len 0 k) ++ y ∷ []) value
    ∙ sym (map-range_with_len_more f 0 k k z)
