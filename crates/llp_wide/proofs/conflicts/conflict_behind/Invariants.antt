use Rattle.std.proofs.Common.{◌<◌, ℕ}
use Rattle.grammar_file.specs.declared.symbols.Symbol.TheVariants.{Terminal}
use Rattle.llp_tables.specs.Lookbacks.{HasNoTwo, cells_at}
use Rattle.llp_wide.proofs.conflicts.conflict_behind.Given as goal

abbrev pub invariant-loop-a : goal.invariant-loop-a
invariant-loop-a l = (d : ℕ) → d < l.a → HasNoTwo (cells_at l.classes l.z (Terminal d))
