use Rattle.std.proofs.Common.{◌∙◌, rules, ap, length}
use Rattle.std.specs.List.{range_with_len, filter}
use Rattle.par_passes.specs.Laws.Calling.{if_ok, places_by}
use Rattle.source_meaning.specs.declared.kinds.Kind.TheVariants.{Program}
use Rattle.folded_rows.specs.Columns.{Columns, is_literal, kind_in}
use Rattle.fold_pass.proofs.rounds.literals.Goals as goal

pub returns : goal.returns
returns g c = if_ok c.positions.result c.positions.ensures (λ v found.
    found is_literal (search rules)
    ∙ places_by is_literal c.columns.inside.kinds.now Program
    ∙ ap (λ (q : Columns). filter (λ k. is_literal (kind_in q k)) (range_with_len 0 (length q.kinds))) c.columns.view_is)
