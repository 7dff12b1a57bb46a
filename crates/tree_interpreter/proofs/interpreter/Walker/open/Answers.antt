use Rattle.std.proofs.Common.{◌≡◌, ◌-◌, ◌++◌, map, length, replicate, suc, sym, ap, ◌∙◌, arith}
use Rattle.std.proofs.lemmas.List.{length-map}
use Rattle.source_meaning.specs.Scope.{params_scope, no_scope}
use Rattle.tree_interpreter.specs.Trees.{param_of, stmt_of}
use Rattle.tree_interpreter.specs.Running.{named, name_of}
use Rattle.tree_interpreter.proofs.Numbered.{numbered_so}
use Rattle.tree_interpreter.proofs.Steps.{open_goes}
use Rattle.tree_interpreter.proofs.interpreter.Walker.open.Goals as goal

pub invariant_of-enter : goal.invariant_of-enter
invariant_of-enter c =
    let fits = rw c.in-Some.is at c.left_behind.ensures in
    record { numbered = (numbered_so _ (length c.args.f.now.function.now.params.items) (stmt_of c.args.f.now.function.now.body) (c.deref-2.ensures.value ∙ c.args.f.now.numbered fits.3)).0 }

pub returns : goal.returns
returns c =
    let fits = rw c.in-Some.is at c.left_behind.ensures in
    let is = c.replace-outer.ensures.after in
    let some : c.args.self.now.call.calls ≡ suc (c.args.self.now.call.calls - 1) = omega (arith, c.if-self-eq0.false) in
    open_goes _ _ _ _ _ c.replace-outer.new.dest _ _ _ _
    (some ∙ ap suc (sym (ap (λ o. o.calls) is)))
    fits.0
    (ap (λ o. o.left) is ∙ fits.1)
    (ap (λ o. o.table.items) is ∙ c.in_ok-fill.ensures ∙ ap (λ n. c.args.args.items ++ replicate n 0) fits.2)
    (ap (λ o. named o.names) is ∙ c.in_ok-declare_all.ensures ∙ ap (λ ps. map name_of (params_scope no_scope (map param_of ps)).variables) c.deref.ensures.value)
    ((numbered_so _ (length c.args.f.now.function.now.params.items) (stmt_of c.args.f.now.function.now.body) (c.deref-2.ensures.value ∙ c.args.f.now.numbered fits.3)).1 ∙ sym (length-map c.args.f.now.function.now.params.items param_of))
    c.replace-outer.ensures.value
    c.in_ok-push.ensures
    c.requires.light
    c.enter.ensures
