-- The rows of the terminals so far are behind the text.
use Rattle.std.proofs.Common.{◌≡◌, ◌++◌, ℕ, Option, flat_map}
use Rattle.std.specs.List.{range_with_len}
use Rattle.llp_tables.specs.Tables.{Entry}
use Rattle.table_text.specs.Entries.{row_lines}
use Rattle.table_text.specs.Listed.{HasEntryBehind, looked_back, two_before}
use Rattle.table_text.proofs.entries.push_layer.Given as goal

abbrev pub invariant-loop-a : goal.invariant-loop-a
invariant-loop-a l = (entry : ℕ → ℕ → Option Entry) → ((a b : ℕ) → HasEntryBehind l.maker.grammar.now l.maker.outlines.now.sets (two_before l.z a) b (entry a b))
    → l.text.items ≡ l.initial.text.items ++ flat_map (λ a. row_lines l.maker.grammar.now (looked_back l.maker.outlines.now.sets (two_before l.z a)) (entry a)) (range_with_len 0 l.a)
