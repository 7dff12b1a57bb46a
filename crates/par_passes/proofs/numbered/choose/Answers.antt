use Rattle.std.proofs.Common.{◌∙◌, ap, sym, refl, filter}
use Rattle.std.specs.List.{range_with_len}
use Rattle.std.proofs.lemmas.List.Elements.{filter-append}
use Rattle.std.proofs.lemmas.List.FromFn.{length-range_with_len}
use Rattle.chunk_seats.specs.Chunks.{chunk_of, chunk_count}
use Rattle.par_passes.specs.Laws.Together.{if_ok, together}
use Rattle.par_passes.proofs.numbered.choose.Goals as goal

pub returns : goal.returns
returns g c =
    let size = c.plan-size.result.chunk in
    let all = range_with_len 0 c.args.len in
    if_ok c.by_chunks.result c.by_chunks.ensures (λ v whole h computes.
    whole (λ k. filter h (chunk_of size all k)) (λ k x near gave. gave h computes)
    ∙ together (filter h) refl (filter-append h) size all c.plan-size.result.chunk_in_range.0 c.count_chunks.result (c.count_chunks.ensures ∙ ap (chunk_count size) (sym (length-range_with_len 0 c.args.len))))
