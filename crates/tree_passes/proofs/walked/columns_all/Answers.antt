use Rattle.std.proofs.Common.{length}
use Rattle.par_passes.specs.Laws.Calling.{if_ok}
use Rattle.tree_passes.proofs.Ranges.{given_at, given_many, in_range}
use Rattle.tree_passes.proofs.walked.columns_all.Goals as goal

pub bundles-requires-clause-callable : goal.bundles-requires-clause-callable
bundles-requires-clause-callable g c κs within = λ k d lt. let l = in_range (length c.args.stretches.now.ends.now) k d lt in (c.requires.tokens, c.requires.stretches, l)

pub returns-clause-many : goal.returns-clause-many
returns-clause-many g c = if_ok c.bundles.result c.bundles.ensures (λ v gives. given_many _ (length c.args.stretches.now.ends.now) v.items gives)

pub returns-clause-each : goal.returns-clause-each
returns-clause-each g c = if_ok c.bundles.result c.bundles.ensures (λ v gives. given_at _ (length c.args.stretches.now.ends.now) v.items gives)
