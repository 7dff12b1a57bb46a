use Rattle.std.proofs.Common.{rules, ◌∙◌}
use Rattle.source_meaning.specs.declared.kinds.Terminal.TheVariants.{Ident}
use Rattle.row_laws.specs.Owned.{is_owned}
use Rattle.par_passes.specs.Laws.Calling.{if_ok, places_by}
use Rattle.tree_passes.proofs.owned.owned_all.Goals as goal

pub returns : goal.returns
returns g c = if_ok c.positions.result c.positions.ensures (λ v found. found (λ k. is_owned k) (search rules) ∙ places_by (λ k. is_owned k) c.args.kinds.now Ident)
