use Rattle.std.proofs.Common.{rules, sym, subst}
use Rattle.std.proofs.lemmas.Fn.{filter_same}
use Rattle.llp_tables.specs.CellSlots.{cell_of}
use Rattle.llp_tables.specs.Waiting.{AreLeft}
use Rattle.llp_tables.proofs.Adding.{is_uncovered, left_by_filter}
use Rattle.llp_tables.proofs.pending.drop_covered.Goals as goal

pub returns : goal.returns
returns c =
    let cell = cell_of c.args.members.now in
    let old = c.args.pending.now.items in
    subst (AreLeft cell old) (sym (filter_same _ (is_uncovered cell) _ (λ x b f' k. search rules) _ _ c.retain.ensures.filtered)) (left_by_filter cell old)
