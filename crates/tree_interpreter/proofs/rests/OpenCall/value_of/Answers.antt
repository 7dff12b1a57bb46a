use Rattle.std.proofs.Common.{◌∙◌, sym, ap}
use Rattle.tree_interpreter.specs.Running.{value_numbered, named, scope_with}
use Rattle.source_meaning.specs.Scope.{variable_of}
use Rattle.tree_interpreter.proofs.Named.{number_in_scope, value_by_number}
use Rattle.tree_interpreter.proofs.rests.OpenCall.value_of.Goals as goal

pub returns : goal.returns
returns c =
    c.value_at.ensures
    ∙ ap (λ t. value_numbered c.number_of.result t) c.deref.ensures.value
    ∙ ap (λ n. value_numbered n c.args.self.now.table.items) (c.number_of.ensures ∙ number_in_scope (named c.args.self.now.names) c.args.name.now)
    ∙ sym (value_by_number (variable_of (scope_with (named c.args.self.now.names) 0) c.args.name.now) c.args.self.now.table.items)
