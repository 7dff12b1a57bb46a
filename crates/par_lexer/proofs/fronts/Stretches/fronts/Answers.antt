use Rattle.std.proofs.Common.{length}
use Rattle.par_passes.specs.Laws.Calling.{if_ok}
use Rattle.par_lexer.proofs.Giving.{given_at, given_many, in_range}
use Rattle.par_lexer.proofs.fronts.Stretches.fronts.Goals as goal

pub bundles-requires-clause-callable : goal.bundles-requires-clause-callable
bundles-requires-clause-callable g c κs within = λ k d lt. (c.requires.ready, in_range (length c.args.self.now.parts.now) k d lt)

pub returns : goal.returns
returns g c = if_ok c.bundles.result c.bundles.ensures (λ v gives. record {
  many = given_many _ (length c.args.self.now.parts.now) v.items gives;
  each = given_at _ (length c.args.self.now.parts.now) v.items gives;
})
