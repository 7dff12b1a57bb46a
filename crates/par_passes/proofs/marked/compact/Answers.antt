use Rattle.std.proofs.Common.{map, filter, ◌∙◌}
use Rattle.std.specs.List.{zip}
use Rattle.chunk_seats.specs.Chunks.{chunk_of}
use Rattle.par_passes.specs.Laws.Together.{if_ok, marked_together, marked_chunk}
use Rattle.par_passes.proofs.marked.compact.Goals as goal

pub returns : goal.returns
returns g c =
    let size = c.plan-size.result.chunk in
    if_ok c.by_chunks.result c.by_chunks.ensures (λ v whole.
    whole (λ k. map (λ p. p.0) (filter (λ p. p.1) (chunk_of size (zip c.args.items.now c.args.marks.now) k))) (λ k x near gave. gave ∙ marked_chunk size c.args.items.now c.args.marks.now k)
    ∙ marked_together size c.args.items.now c.args.marks.now c.plan-size.result.chunk_in_range.0 c.requires.marks c.count_chunks-count.result c.count_chunks-count.ensures)
