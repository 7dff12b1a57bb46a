use Rattle.std.proofs.Common.{sym, ◌∙◌}
use Rattle.std.specs.List.{range_with_len}
use Rattle.std.proofs.lemmas.List.FromFn.{length-range_with_len}
use Rattle.par_passes.specs.Laws.Marking.{as_wide}
use Rattle.par_passes.specs.Laws.Giving.{known_first}
use Rattle.par_passes.proofs.dealt.fill_whole.Given as given
use Rattle.par_passes.proofs.dealt.fill_whole.Goals as goal

pub deal_parts-requires-clause-wide : goal.deal_parts-requires-clause-wide
deal_parts-requires-clause-wide g c = λ κs within k part at. as_wide c.args.filling.now.plan.chunk (range_with_len 0 c.args.filling.now.len) _ k _ (c.requires.wide.0 ∙ sym (length-range_with_len 0 c.args.filling.now.len)) (c.cut_all-parts.ensures.items k part at)

pub deal_parts-requires-clause-known : goal.deal_parts-requires-clause-known
deal_parts-requires-clause-known g c = λ κs within k part at.
    known_first (given.F-post g c.args.filling.now.f.now) c.args.filling.now.plan.chunk (range_with_len 0 c.args.filling.now.len) _ k _ c.args.filling.now.plan.chunk_in_range.0 (c.cut_all-parts.ensures.items k part at) c.requires.known
