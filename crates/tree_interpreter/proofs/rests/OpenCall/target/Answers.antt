use Rattle.std.proofs.Common.{◌≡◌, ◌∙◌, sym, ap, subst, option_map}
use Rattle.source_meaning.specs.Meaning.{target as target_of}
use Rattle.tree_interpreter.specs.Trees.{expr_of}
use Rattle.tree_interpreter.specs.Running.{number_named, named, scope_with}
use Rattle.tree_interpreter.proofs.Named.{number_in_scope}
use Rattle.tree_interpreter.proofs.rests.OpenCall.target.Goals as goal

pub returns-in-Name : goal.returns-in-Name
returns-in-Name c =
    subst (λ e. c.number_of.result ≡ option_map (λ v. v.number) (target_of (scope_with (named c.args.self.now.names) 0) (expr_of e))) (sym c.in-Name.is)
    (c.number_of.ensures ∙ ap (λ x. number_named (named c.args.self.now.names) x) c.deref.ensures.value ∙ number_in_scope (named c.args.self.now.names) c.in-Name.name.items)
