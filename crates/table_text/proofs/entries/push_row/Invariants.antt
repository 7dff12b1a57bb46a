-- The lines of the terminals so far are behind the text.
use Rattle.std.proofs.Common.{◌≡◌, ◌++◌, ℕ, Option, flat_map}
use Rattle.std.specs.List.{range_with_len}
use Rattle.llp_tables.specs.Tables.{Entry}
use Rattle.table_text.specs.Entries.{entry_line}
use Rattle.table_text.specs.Listed.{HasEntryBehind, looked_back}
use Rattle.table_text.proofs.entries.push_row.Given as goal

abbrev pub invariant-loop-b : goal.invariant-loop-b
invariant-loop-b l = (entry : ℕ → Option Entry) → ((b : ℕ) → HasEntryBehind l.maker.grammar.now l.maker.outlines.now.sets l.behind b (entry b))
    → l.text.items ≡ l.initial.text.items ++ flat_map (λ b. entry_line l.maker.grammar.now (looked_back l.maker.outlines.now.sets l.behind) b (entry b)) (range_with_len 0 l.b)
