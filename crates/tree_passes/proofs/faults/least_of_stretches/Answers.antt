use Rattle.std.proofs.Common.{◌≡◌, ◌<◌, ℕ, suc, ◌+◌, length, ap, ◌∙◌, arith}
use Rattle.list_cuts.specs.Cuts.{number_at, start_of}
use Rattle.row_columns.specs.RowFaults.{least_in}
use Rattle.tree_passes.proofs.Appended.{least_next}
use Rattle.tree_passes.proofs.Ranges.{many_of, value_at}
use Rattle.tree_passes.proofs.faults.least_of_stretches.Goals as goal

pub loop-c-preserved : goal.loop-c-preserved
loop-c-preserved c =
    let columns = c.args.columns.now in
    let ends = c.args.ends.now in
    let keys = c.args.keys.now in
    let k = c.loop-c.c in
    let key : ℕ → ℕ = λ j. least_in columns.kinds.items columns.lows.items columns.tokens.items (start_of ends j) (number_at ends j) in
    let many : length keys ≡ length ends = many_of key (length ends) keys c.requires.keys in
    let inside : k < length ends = omega arith in
    let more : suc k ≡ k + 1 = omega arith in
    let item = c.index-keys-c.result in
    let is : item ≡ key k = c.index-keys-c.is ∙ value_at key item (length ends) keys k c.requires.keys inside in
    least_next columns.kinds.items columns.lows.items columns.tokens.items ends (length columns.kinds.items) k c.requires.cuts inside c.loop-c.least item c.min-least.result
    c.loop-c.invariant is c.min-least.ensures
    ∙ ap (λ n. least_in columns.kinds.items columns.lows.items columns.tokens.items 0 (start_of ends n)) more

pub returns : goal.returns
returns c =
    let columns = c.args.columns.now in
    let ends = c.args.ends.now in
    let key : ℕ → ℕ = λ j. least_in columns.kinds.items columns.lows.items columns.tokens.items (start_of ends j) (number_at ends j) in
    let many : length c.args.keys.now ≡ length ends = many_of key (length ends) c.args.keys.now c.requires.keys in
    let a = c.loop-c.auto.c-end in
    let b = c.loop-c-test.false in
    let all : c.loop-c.c ≡ length ends = omega arith in
    c.loop-c.invariant ∙ ap (λ n. least_in columns.kinds.items columns.lows.items columns.tokens.items 0 n) (ap (start_of ends) all ∙ c.requires.cuts.all)
