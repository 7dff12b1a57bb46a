use Rattle.std.proofs.Common.{arith}
use Rattle.rv32_emul.proofs.Codes.{region-more}
use Rattle.rv32_emul.proofs.code.code_of.Goals as goal

pub loop-region-preserved : goal.loop-region-preserved
loop-region-preserved c = record {
  long = omega (arith, c.in_ok-push.ensures.len);
  kept = region-more c.loop-region.code.items c.push.new.self.items c.in_ok-of_region.field-0 c.args.regions.now c.loop-region.region-index c.region-item.result c.in_ok-push.ensures.items c.loop-region.invariant.long c.loop-region-test.true c.region-item.is c.in_ok-of_region.ensures c.loop-region.invariant.kept;
}
