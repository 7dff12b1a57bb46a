use Rattle.std.proofs.Common.{take}
use Rattle.llp_tables.specs.Lengths.{IsSum}
use Rattle.llp_tables.proofs.lengths.length_of_form.Given as goal

abbrev pub invariant-loop-symbol : goal.invariant-loop-symbol
invariant-loop-symbol l = IsSum l.lengths (take l.symbol-index l.form) l.sum
