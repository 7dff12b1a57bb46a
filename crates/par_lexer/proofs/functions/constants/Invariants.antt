-- The marks so far.
use Rattle.std.proofs.Common.{◌≡◌, ◌<◌, ℕ, true, false, length}
use Rattle.std.specs.Prelude.{slice_index_or}
use Rattle.par_lexer.specs.Known.{IsConstant}
use Rattle.par_lexer.proofs.functions.constants.Given as goal

abbrev pub invariant-loop-number : goal.invariant-loop-number
invariant-loop-number l = record {
  many : length l.constant.items ≡ l.number;
  each : (k : ℕ) → k < length l.constant.items → slice_index_or l.constant.items k false ≡ true → IsConstant l.compositions k;
}
