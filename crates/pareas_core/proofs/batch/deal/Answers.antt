use Rattle.std.proofs.Common.{◌∙◌, ℕ, All, List, Result, map, ap, subst}
use Rattle.std.specs.Prelude.{IfOk}
use Rattle.std.specs.declared.alloc.AllocError.{AllocError}
use Rattle.batch_records.specs.Answering.{Answered, source_at}
use Rattle.pareas_core.specs.Batch.{IsFound}
use Rattle.pareas_core.proofs.Dealt.{found_all}
use Rattle.pareas_core.proofs.batch.deal.Goals as goal

pub returns-clause-answers : goal.returns-clause-answers
returns-clause-answers g c = λ sources are.
    let input = c.args.input.now in
    let found = c.in_ok-found.found.items in
    let sources_read : List (List ℕ) = map (source_at input) c.as_slice-places.result.now in
    let same = c.records_are_one.ensures input (map (source_at input) c.in-Ok.records.items) sources c.in-Ok.ensures.batch.records are in
    subst (λ s. All (IsFound s) found) (ap (map (source_at input)) c.as_slice-places.ensures.value ∙ same)
    (found_all _ (λ n (r : Result Answered AllocError). IfOk r (λ answer. IsFound sources_read (n, answer))) sources_read (λ n a within gave. gave) found c.in_ok-found.ensures.made)
