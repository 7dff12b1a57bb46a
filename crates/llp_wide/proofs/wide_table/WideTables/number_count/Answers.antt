use Rattle.std.proofs.Common.{ap, ◌∙◌}
use Rattle.std.specs.Prelude.{count_by, is_some}
use Rattle.llp_wide.specs.WideEntries.{WideTable}
use Rattle.llp_wide.proofs.TripleCounts.{numbers_counted}
use Rattle.llp_wide.proofs.wide_table.WideTables.number_count.Goals as goal

pub returns : goal.returns
returns c =
    let t = c.self.inside in
    c.count_numbers.ensures ∙ (ap (count_by is_some) c.as_slice.ensures.value ∙ (numbers_counted t.pieces.items t.numbers.items c.self.invariant ∙ ap (λ (w : WideTable). count_by is_some w.entries) c.self.view_is))
