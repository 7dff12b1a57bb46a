-- The layers of the terminals so far are behind the text.
use Rattle.std.proofs.Common.{◌≡◌, ◌++◌, ℕ, flat_map}
use Rattle.std.specs.List.{range_with_len}
use Rattle.glue_summary.specs.Pieces.{Pieces}
use Rattle.table_text.specs.Listed.{HasEntryBehind, layer_lines, two_before}
use Rattle.table_text.proofs.entries.push_layers.Given as goal

abbrev pub invariant-loop-z : goal.invariant-loop-z
invariant-loop-z l = (entry : Pieces) → ((z a b : ℕ) → HasEntryBehind l.maker.grammar.now l.maker.outlines.now.sets (two_before z a) b (entry z a b))
    → l.text.items ≡ l.initial.text.items ++ flat_map (λ z. layer_lines l.maker.grammar.now l.maker.outlines.now.sets z (entry z)) (range_with_len 0 l.z)
