use Rattle.std.proofs.Common.{◌<◌, arith}
use Rattle.std.proofs.lemmas.List.Elements.{All-from_get_or}
use Rattle.state_monoid.specs.Laws.Prefixes.{prefix_function, prefix_state}
use Rattle.state_monoid.proofs.laws.prefixes_are_runs.Goals as goal

pub returns-clause-functions : goal.returns-clause-functions
returns-clause-functions c i n at = prefix_function c.args.compositions.now c.args.bytes.now (All-from_get_or (λ b. b < 256) c.args.bytes.now 0 (λ k l. let fits = c.type_inv.bytes k in omega arith)) i n at

pub returns-clause-states : goal.returns-clause-states
returns-clause-states c i n s at k = prefix_state c.args.compositions.now c.args.bytes.now (All-from_get_or (λ b. b < 256) c.args.bytes.now 0 (λ j l. let fits = c.type_inv.bytes j in omega arith)) i n s at k
