use Rattle.std.proofs.Common.{◌≡◌, ◌+◌, ◌∷◌, [], ◌++◌, map, take, length, sym, ap, ◌∙◌, arith}
use Rattle.std.proofs.lemmas.List.{take_more, map-append, length-map, length-take-le}
use Rattle.source_meaning.specs.Scope.{params_scope, no_scope}
use Rattle.tree_interpreter.specs.Trees.{param_of}
use Rattle.tree_interpreter.specs.Running.{name_of}
use Rattle.tree_interpreter.proofs.Named.{declared_more}
use Rattle.tree_interpreter.proofs.names.Names.declare_all.Goals as goal

pub loop-param-preserved : goal.loop-param-preserved
loop-param-preserved c =
    let ps = c.args.params.now in
    let i = c.loop-param.param-index in
    let more : take (i + 1) ps ≡ take i ps ++ c.param-item.result ∷ [] = take_more ps i c.param-item.result c.loop-param-test.true ∙ ap (λ q. take i ps ++ q ∷ []) (sym c.param-item.is) in
    let count : i ≡ length (map param_of (take i ps)) = sym (length-map (take i ps) param_of ∙ length-take-le i ps (omega arith)) in (
      omega arith,
      c.in_ok-declare.ensures
          ∙ (λ j. (c.deref.ensures.value j, c.loop-param.invariant.0 j) ∷ c.loop-param.invariant.1 j)
          ∙ sym
          (ap (λ l. map name_of (params_scope no_scope (map param_of l)).variables) more
          ∙ ap (λ l. map name_of (params_scope no_scope l).variables) (map-append param_of (take i ps) (c.param-item.result ∷ []))
          ∙ declared_more (map param_of (take i ps)) (param_of c.param-item.result) i count),
    )
