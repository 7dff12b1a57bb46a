use Rattle.std.proofs.Common.{arith}
use Rattle.rv32_emul.proofs.Keeping.{decoded-more}
use Rattle.rv32_emul.proofs.region.decoded_words.Goals as goal

pub loop-k-preserved : goal.loop-k-preserved
loop-k-preserved c = record {
  long = omega (arith, c.in_ok-push.ensures.len);
  decoded = decoded-more c.loop-k.code.items c.push.new.self.items c.decoded_word.result c.args.bytes.now c.loop-k.k c.in_ok-push.ensures.items c.loop-k.invariant.long c.loop-k.invariant.decoded (omega arith) (c.decoded_word.ensures.decoded, c.decoded_word.ensures.in_range);
}
