use Rattle.std.proofs.Common.{◌≡◌}
use Rattle.std.specs.Prelude.{length}
use Rattle.rv32_emul.specs.Kept.{AreDecoded}
use Rattle.rv32_emul.proofs.region.decoded_words.Given as goal

abbrev pub invariant-loop-k : goal.invariant-loop-k
invariant-loop-k l = record {
  long : length l.code.items ≡ l.k;
  decoded : AreDecoded l.code.items l.bytes;
}
