use Rattle.std.proofs.Common.{subst}
use Rattle.std.proofs.lemmas.Result.{IfOk-weaker}
use Rattle.batch_records.specs.Answering.{IsError}
use Rattle.pareas_core.proofs.Batched.{answered_whole, refused_batch}
use Rattle.pareas_core.proofs.batch.batch.Goals as goal

pub returns-in_ok-answer_all-in-Ok : goal.returns-in_ok-answer_all-in-Ok
returns-in_ok-answer_all-in-Ok g c =
    let input = c.args.input.now in
    let w = c.in_ok-answer_all-in-Ok.ensures in
    answered_whole input c.answered.result c.one_verdict.ensures (c.records_are_one.ensures input) (c.faults_are_one.ensures input) (c.fault_or_records.ensures input) w.0 _ w.1 w.2
    c.answered.ensures

pub returns-in-Err-Fault : goal.returns-in-Err-Fault
returns-in-Err-Fault g c =
    let input = c.args.input.now in
    IfOk-weaker c.bad_batch.result _ _
    (λ d same. refused_batch input d c.one_verdict.ensures (c.records_are_one.ensures input) (c.faults_are_one.ensures input) (c.fault_or_records.ensures input) c.in-Err-Fault.fault
    (subst (IsError input) c.in-Err-Fault.field-0-is c.in-Err-Fault.ensures.fault) same)
    c.bad_batch.ensures
