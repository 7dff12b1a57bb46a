use Rattle.std.proofs.Common.{refl, sym, ◌∙◌}
use Rattle.pareas_core.proofs.Rest.{rest_all}
use Rattle.pareas_core.proofs.Appending.{start_of, goes_on}
use Rattle.pareas_core.proofs.writing.write_all.Goals as goal

pub loop-rest-init : goal.loop-rest-init
loop-rest-init g c = record { written = start_of (g.O.ByteOut.written c.args.out.now) c.args.bytes.now; worked = refl }

pub loop-rest-preserved : goal.loop-rest-preserved
loop-rest-preserved g c =
    let p = goes_on _ _ (g.O.ByteOut.written c.write.new.self) c.args.bytes.now c.loop-rest.rest.now c.in_ok-count.count c.loop-rest.invariant.written c.in_ok-count.ensures.bytes in
    record {
      written = (p.0, p.1 ∙ sym (rest_all c.in_ok-count.count c.loop-rest.rest.now));
      worked = c.in_ok-count.ensures.cause.succeeded ∙ c.loop-rest.invariant.worked;
    }
