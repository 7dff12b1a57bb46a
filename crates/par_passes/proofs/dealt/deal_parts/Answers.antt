use Rattle.std.proofs.Common.{length, ap, sym, ◌∙◌}
use Rattle.std.specs.List.{range_with_len}
use Rattle.std.proofs.lemmas.List.FromFn.{length-range_with_len}
use Rattle.chunk_seats.specs.Chunks.{chunk_of, chunk_count}
use Rattle.list_parts.specs.Parts.{part_items}
use Rattle.par_passes.specs.Passes.{Gives}
use Rattle.par_passes.specs.Laws.Together.{if_ok}
use Rattle.par_passes.specs.Laws.Giving.{gives_weaker, gives_chunks}
use Rattle.par_passes.proofs.dealt.deal_parts.Goals as goal

pub returns-clause-values : goal.returns-clause-values
returns-clause-values g c =
    let size = c.args.filling.now.plan.chunk in let numbers = range_with_len 0 c.args.filling.now.len in let chunks = c.requires.chunks in let post : _ → _ → Type 0 = λ x r. g.F.Fn.post c.args.filling.now.f.now (x, tt) r in
    if_ok c.fill_parts.result c.fill_parts.ensures.whole (λ p whole.
    let back = whole.values in
    gives_chunks post part_items size numbers (length c.args.parts.items) back.0 (part_items p) c.args.filling.now.plan.chunk_in_range.0 (chunks ∙ ap (chunk_count size) (sym (length-range_with_len 0 c.args.filling.now.len))) back.2
    (gives_weaker _ (λ k part. Gives post (chunk_of size numbers k) (part_items part)) _ back.0 (λ k part fine. fine.values) back.1))
