use Rattle.std.proofs.Common.{◌≡◌, Some, None, option_map, sym, ap, ◌∙◌}
use Rattle.source_meaning.specs.Scope.{function_of as function_named}
use Rattle.tree_interpreter.specs.Trees.{args_of, function_of}
use Rattle.tree_interpreter.specs.Walking.{program_in}
use Rattle.tree_interpreter.proofs.Steps.{put_goes, argument_goes, function_goes, nothing_goes}
use Rattle.tree_interpreter.proofs.interpreter.Walker.arguments.Goals as goal

pub returns-in-Then : goal.returns-in-Then
returns-in-Then c =
    put_goes c.args.self.now _ _ c.args.name.now.items c.args.values.items c.known_arguments.new.values.items (args_of c.args.args.now) (args_of c.in_ok-first.field-0.now) c.in_ok-first.ensures
    (rw (c.in-Then.is, sym c.deref-in-Then.ensures, sym c.deref-in-Then-2.ensures) (argument_goes _ _ _ _ _ _ _ c.put_off.ensures))

pub returns-in-Some : goal.returns-in-Some
returns-in-Some c =
    let found : function_named (program_in c.args.self.now) c.args.name.now.items ≡ Some (function_of c.in-Some.f.now.function.now) = ap (λ n. function_named (program_in c.args.self.now) n) (sym c.deref.ensures.value) ∙ sym c.function.ensures.first ∙ ap (λ o. option_map (λ f. function_of f.now.function.now) o) c.in-Some.is in
    put_goes c.args.self.now _ _ c.args.name.now.items c.args.values.items c.known_arguments.new.values.items (args_of c.args.args.now) (args_of c.in_ok-first.field-0.now) c.in_ok-first.ensures
    (rw c.in-Done.is (function_goes c.args.self.now _ _ c.args.name.now.items c.known_arguments.new.values.items (function_of c.in-Some.f.now.function.now) found c.open.ensures))

pub returns-in-None : goal.returns-in-None
returns-in-None c =
    let found : function_named (program_in c.args.self.now) c.args.name.now.items ≡ None = ap (λ n. function_named (program_in c.args.self.now) n) (sym c.deref.ensures.value) ∙ sym c.function.ensures.first ∙ ap (λ o. option_map (λ f. function_of f.now.function.now) o) c.in-None.is in
    put_goes c.args.self.now _ _ c.args.name.now.items c.args.values.items c.known_arguments.new.values.items (args_of c.args.args.now) (args_of c.in_ok-first.field-0.now) c.in_ok-first.ensures
    (rw c.in-Done.is (nothing_goes c.args.self.now _ _ c.args.name.now.items c.known_arguments.new.values.items found c.give.ensures))
