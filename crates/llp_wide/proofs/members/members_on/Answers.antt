use Rattle.std.proofs.lemmas.Result.{IfOk-weaker}
use Rattle.grammar_file.specs.declared.symbols.Symbol.TheVariants.{Terminal}
use Rattle.llp_tables.specs.Lookbacks.{cells_at}
use Rattle.llp_wide.specs.Wide.{IsWideLookback}
use Rattle.llp_wide.specs.WideBehind.{WideBehind}
use Rattle.llp_wide.proofs.WideRules.{by_rules, by_derivations, keeps_as}
use Rattle.llp_wide.proofs.members.members_on.Goals as goal

pub returns : goal.returns
returns c =
    let g = c.args.ground.now.grammar.now in
    IfOk-weaker c.least_wide_members.result _ _
    (λ v h z a. keeps_as (WideBehind g z (Terminal a) c.args.ground.now.b) (IsWideLookback g z a c.args.ground.now.b) (cells_at v.items z (Terminal a)) (λ w m. by_derivations g z a c.args.ground.now.b w m) (λ w m. by_rules g z a c.args.ground.now.b w m) (h z a))
    c.least_wide_members.ensures
