use Rattle.std.proofs.Common.{◌≡◌, [], length, subst, arith}
use Rattle.source_meaning.specs.Grammar.{Tree, Prog, ast}
use Rattle.source_meaning.specs.Lexemes.{tokens}
use Rattle.source_meaning.specs.Scope.{scope_faults}
use Rattle.front_end.specs.Laws.Counting.{tree_few}
use Rattle.pass_views.specs.Stopped.{Stops}
use Rattle.pass_views.specs.Shown.{IsScoped}
use Rattle.back_end.specs.Laws.HandedOn.{handed_on}
use Rattle.pass_views.proofs.Showing.{passed_on, stopped}
use Rattle.pass_views.proofs.show.names_of.Goals as goal

pub named-requires-clause-few : goal.named-requires-clause-few
named-requires-clause-few g c κs within =
    let t = c.in_ok-tokens.ensures.shaped in
    let h = tree_few c.args.source.now c.in_ok-tokens.rows t.0 c.in_ok-tokens.ensures.lexed.fits t.1 (c.rows_are_few.ensures t.0) in
    omega arith

pub returns-clause-few : goal.returns-clause-few
returns-clause-few g c =
    let t = c.in_ok-tokens.ensures.shaped in
    let h = tree_few c.args.source.now c.in_ok-tokens.rows t.0 c.in_ok-tokens.ensures.lexed.fits t.1 (c.rows_are_few.ensures t.0) in
    omega arith

pub returns-clause-scoped : goal.returns-clause-scoped
returns-clause-scoped g c =
    let t = c.in_ok-tokens.ensures.shaped in
    let lexed = c.in_ok-tokens.ensures.lexed in (
      t.0,
      record {
        shaped = record { parsed = record { lexed = record { fits = lexed.fits; lexical = lexed.lexical }; tree = t.1.tree }; shaped = t.1.shaped };
        scoped = c.in_ok-names.ensures.scoped t.0 t.1;
      },
      t.1,
      c.in_ok-names.ensures.names t.0 t.1,
    )

pub returns-in_err-tokens-clause-stopped : goal.returns-in_err-tokens-clause-stopped
returns-in_err-tokens-clause-stopped g c =
    passed_on c.args.source.now c.from_residual.result c.in_err-tokens.field-0.0 c.from_residual.ensures.1 (λ none t is. none t is.shaped) c.in_err-tokens.ensures.stopped

pub returns-in_err-names-clause-stopped : goal.returns-in_err-names-clause-stopped
returns-in_err-names-clause-stopped g c =
    let text = c.args.source.now in
    let t = c.in_ok-tokens.ensures.shaped in
    handed_on (Stops ((u : Tree Prog) → ¬ IsScoped text u) text) c.from_residual-in_err-names.result c.in_err-names.field-0.0 c.from_residual-in_err-names.ensures.1
    (stopped text c.in_err-names.field-0.0 (c.in_err-names.ensures.refused t.0 t.1) (c.in_err-names.ensures.faulty t.0 t.1)
    (λ none u is. none (subst (λ k. scope_faults (length (tokens text)) (ast k) ≡ []) (c.one_tree_of_text.ensures text u t.0 is.shaped.parsed.tree t.1.tree) is.scoped)))
