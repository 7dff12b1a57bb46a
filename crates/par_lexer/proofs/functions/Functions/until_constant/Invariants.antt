-- The number of the function of the bytes so far.
use Rattle.std.proofs.Common.{◌≡◌, ◌<◌, take, length}
use Rattle.par_lexer.specs.Known.{number_of_bytes}
use Rattle.par_lexer.proofs.functions.Functions.until_constant.Given as goal

abbrev pub invariant-loop-place : goal.invariant-loop-place
invariant-loop-place l = (l.number ≡ number_of_bytes l.self.compositions (take l.place l.bytes)) × (l.number < length l.self.compositions.functions)
