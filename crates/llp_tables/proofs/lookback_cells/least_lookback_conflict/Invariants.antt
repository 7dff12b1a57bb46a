use Rattle.std.proofs.Common.{◌<◌, ℕ}
use Rattle.grammar_file.specs.declared.symbols.Symbol.TheVariants.{Terminal}
use Rattle.ll1_sets.specs.Width.{width_of}
use Rattle.llp_tables.specs.Lookbacks.{HasNoTwo, cells_at}
use Rattle.llp_tables.proofs.lookback_cells.least_lookback_conflict.Given as goal

abbrev pub invariant-loop-a : goal.invariant-loop-a
invariant-loop-a l = (d c : ℕ) → d < l.a → c < width_of l.grammar → HasNoTwo (cells_at l.lookbacks c (Terminal d))
