use Rattle.std.proofs.Common.{◌≡◌, ◌+◌, ◌++◌, ◌∙◌, ap, sym, take, drop, subst, arith}
use Rattle.std.proofs.lemmas.Result.{on_err_weaker}
use Rattle.batch_records.specs.Answering.{all_bytes}
use Rattle.pareas_core.specs.Reading.{WritesAllBut}
use Rattle.pareas_core.proofs.Gathering.{all_bytes_more, all_bytes_parts, on_err, pending_then_all_but, pending_then_end, pending_then_prefix, prefix_of_more}
use Rattle.pareas_core.proofs.writing.write_answers.Goals as goal

pub returns-in_err-put-clause-prefix : goal.returns-in_err-put-clause-prefix
returns-in_err-put-clause-prefix g c =
    let all = c.args.answers.now in
    let i = c.loop-answer.answer-index in
    let put = c.encoded.result.now in
    let step : all_bytes (take i all) ++ put ≡ all_bytes (take (i + 1) all) = all_bytes_more all i c.answer-item.result put (omega arith) c.answer-item.is c.encoded.ensures in
    on_err c.from_residual.result
    (prefix_of_more _ _ (all_bytes (take i all) ++ put) (all_bytes (drop (i + 1) all)) (all_bytes all) (all_bytes_parts all (i + 1) ∙ ap (λ l. l ++ all_bytes (drop (i + 1) all)) (sym step))
    (pending_then_prefix _ (g.O.ByteOut.written c.loop-answer.out) _ (all_bytes (take i all)) c.loop-answer.buffer c.loop-answer.invariant.written put c.in_err-put.ensures.prefix))

pub loop-answer-preserved : goal.loop-answer-preserved
loop-answer-preserved g c =
    let all = c.args.answers.now in
    let i = c.loop-answer.answer-index in
    let put = c.encoded.result.now in
    let step : all_bytes (take i all) ++ put ≡ all_bytes (take (i + 1) all) = all_bytes_more all i c.answer-item.result put (omega arith) c.answer-item.is c.encoded.ensures in
    record {
      written = subst (WritesAllBut c.put.new.self _ _) step
          (pending_then_all_but _ (g.O.ByteOut.written c.loop-answer.out) _ (all_bytes (take i all)) c.loop-answer.buffer c.loop-answer.invariant.written put c.put.new.self c.in_ok-put.ensures.put);
      worked = c.in_ok-put.ensures.worked ∙ c.loop-answer.invariant.worked;
    }

pub returns-clause-prefix : goal.returns-clause-prefix
returns-clause-prefix g c =
    let all = c.args.answers.now in
    let i = c.loop-answer.answer-index in
    on_err_weaker c.flush.result
    (λ p. prefix_of_more _ _ (all_bytes (take i all)) (all_bytes (drop i all)) (all_bytes all) (all_bytes_parts all i)
    (pending_then_end _ (g.O.ByteOut.written c.loop-answer.out) _ (all_bytes (take i all)) c.loop-answer.buffer c.loop-answer.invariant.written p))
    c.flush.ensures.prefix
