use Rattle.std.proofs.Common.{length}
use Rattle.list_cuts.specs.Cuts.{number_at, start_of}
use Rattle.par_passes.specs.Laws.Calling.{if_ok}
use Rattle.row_columns.specs.RowFaults.{least_in}
use Rattle.tree_passes.proofs.Ranges.{given_map, in_range}
use Rattle.tree_passes.proofs.faults.keys_all.Goals as goal

pub bundles-requires-clause-callable : goal.bundles-requires-clause-callable
bundles-requires-clause-callable g c κs within = λ k d lt. let l = in_range (length c.args.ends.now) k d lt in (c.requires.lows, c.requires.cuts, l)

pub returns : goal.returns
returns g c = if_ok c.bundles.result c.bundles.ensures (λ v gives.
    let columns = c.args.columns.now in
    let ends = c.args.ends.now in
    given_map _ (length ends) v.items gives (λ k. least_in columns.kinds.items columns.lows.items columns.tokens.items (start_of ends k) (number_at ends k)) (λ k r h. h))
