use Rattle.std.proofs.Common.{◌<◌, ℕ}
use Rattle.grammar_file.specs.declared.symbols.Symbol.TheVariants.{Terminal}
use Rattle.llp_tables.specs.Lookbacks.{HasNoTwo, cells_at}
use Rattle.llp_tables.proofs.lookback_cells.conflict_behind.Given as goal

abbrev pub invariant-loop-b : goal.invariant-loop-b
invariant-loop-b l = (c : ℕ) → c < l.b → HasNoTwo (cells_at l.lookbacks c (Terminal l.a))
