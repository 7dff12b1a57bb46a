use Rattle.std.proofs.Common.{◌<◌, ◌+◌, ℕ, length}
use Rattle.grammar_file.specs.declared.symbols.Symbol.TheVariants.{Terminal}
use Rattle.llp_tables.specs.Lookbacks.{HasNoTwo, cells_at}
use Rattle.llp_wide.proofs.conflicts.conflict_on.Given as goal

abbrev pub invariant-loop-z : goal.invariant-loop-z
invariant-loop-z l = (y d : ℕ) → y < l.z → d < length l.grammar.terminals + 2 → HasNoTwo (cells_at l.classes y (Terminal d))
