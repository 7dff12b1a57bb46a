use Rattle.std.proofs.lemmas.Result.{on_ok_weaker, on_err_weaker}
use Rattle.pareas_core.proofs.Gathering.{whole_then_prefix, whole_then_whole}
use Rattle.pareas_core.proofs.buffer.Buffer.put.Goals as goal

pub returns-clause-put : goal.returns-clause-put
returns-clause-put g c =
    on_ok_weaker c.write_all.result
    (whole_then_whole _ (g.O.ByteOut.written c.flush.new.out) _ c.args.self.now c.args.bytes.now c.flush.new.self c.in_ok-flush.ensures.emptied c.in_ok-flush.ensures.written)
    c.write_all.ensures.written

pub returns-clause-prefix : goal.returns-clause-prefix
returns-clause-prefix g c =
    on_err_weaker c.write_all.result
    (whole_then_prefix _ (g.O.ByteOut.written c.flush.new.out) _ c.args.self.now c.args.bytes.now c.in_ok-flush.ensures.written)
    c.write_all.ensures.prefix
