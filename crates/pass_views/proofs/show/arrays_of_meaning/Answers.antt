use Rattle.std.proofs.Common.{◌≡◌, [], length, subst, arith}
use Rattle.source_meaning.specs.Grammar.{Tree, Prog, ast}
use Rattle.source_meaning.specs.Lexemes.{tokens}
use Rattle.source_meaning.specs.Scope.{scope_faults}
use Rattle.source_meaning.specs.Typing.{type_faults}
use Rattle.front_end.specs.Front.{IsChecked}
use Rattle.front_end.specs.Laws.Counting.{tree_few}
use Rattle.pass_views.specs.Stopped.{Stops}
use Rattle.back_end.specs.Laws.HandedOn.{handed_on}
use Rattle.pass_views.proofs.NamesShown.{are_names}
use Rattle.pass_views.proofs.Showing.{are_types, checked_as, shaped_as, stopped}
use Rattle.pass_views.proofs.show.arrays_of_meaning.Goals as goal

pub named-requires-clause-few : goal.named-requires-clause-few
named-requires-clause-few g c κs within =
    let t = c.requires.shaped in
    let h = tree_few c.args.source.now c.args.rows t.0 c.requires.lexed.fits t.1 (c.rows_are_few.ensures t.0) in
    omega arith

pub typed-requires-clause-few : goal.typed-requires-clause-few
typed-requires-clause-few g c κs within =
    let t = c.requires.shaped in
    let h = tree_few c.args.source.now c.args.rows t.0 c.requires.lexed.fits t.1 (c.rows_are_few.ensures t.0) in
    omega arith

pub name_columns-requires : goal.name_columns-requires
name_columns-requires g c =
    let t = c.requires.shaped in
    let h = tree_few c.args.source.now c.args.rows t.0 c.requires.lexed.fits t.1 (c.rows_are_few.ensures t.0) in
    record { few = omega arith }

pub returns-clause-ok : goal.returns-clause-ok
returns-clause-ok g c =
    let text = c.args.source.now in
    let t = c.requires.shaped in
    let are = c.in_ok-names.ensures.names t.0 t.1 in (
      t.0,
      record {
        checked = checked_as text c.args.tokens c.args.rows t.0 c.requires.lexed t.1 (c.in_ok-names.ensures.scoped t.0 t.1) (c.in_ok-types.ensures.typed t.0 t.1 are);
        tokens_are = c.requires.lexed.are;
        rows_are = t.1.are;
        names_are = are;
        meant_many = c.in_ok-names.ensures.lens.0;
        numbers_many = c.in_ok-names.ensures.lens.1;
        types_are = c.in_ok-types.ensures.types t.0 t.1 are;
      },
    )

pub returns-clause-names : goal.returns-clause-names
returns-clause-names g c =
    let text = c.args.source.now in
    let t = c.requires.shaped in
    let named = c.shaped_is_named.ensures (ast t.0) t.1.shaped in
    are_names text c.args.rows c.in_ok-names.names c.in_ok-name_columns.field-0.items t.0
    (record { shaped = shaped_as text c.args.tokens c.args.rows t.0 c.requires.lexed t.1; scoped = c.in_ok-names.ensures.scoped t.0 t.1 }) t.1.are (c.in_ok-names.ensures.names t.0 t.1) named
    (c.names_are_bindings.ensures.names (ast t.0) named) (c.names_are_bindings.ensures.calls (ast t.0) named) c.in_ok-name_columns.ensures

pub returns-clause-types : goal.returns-clause-types
returns-clause-types g c =
    let text = c.args.source.now in
    let t = c.requires.shaped in
    let are = c.in_ok-names.ensures.names t.0 t.1 in
    are_types text c.args.rows c.in_ok-types.types c.in_ok-type_columns.field-0.items t.0
    (checked_as text c.args.tokens c.args.rows t.0 c.requires.lexed t.1 (c.in_ok-names.ensures.scoped t.0 t.1) (c.in_ok-types.ensures.typed t.0 t.1 are)) t.1.are
    (c.in_ok-types.ensures.types t.0 t.1 are) c.in_ok-type_columns.ensures

pub returns-in_err-names-clause-stopped : goal.returns-in_err-names-clause-stopped
returns-in_err-names-clause-stopped g c =
    let text = c.args.source.now in
    let t = c.requires.shaped in
    handed_on (Stops ((u : Tree Prog) → ¬ IsChecked text u) text) c.from_residual.result c.in_err-names.field-0.0 c.from_residual.ensures.1
    (stopped text c.in_err-names.field-0.0 (c.in_err-names.ensures.refused t.0 t.1) (c.in_err-names.ensures.faulty t.0 t.1)
    (λ none u is. none (subst (λ k. scope_faults (length (tokens text)) (ast k) ≡ []) (c.one_tree_of_text.ensures text u t.0 is.tree t.1.tree) is.scoped)))

pub returns-in_err-types-clause-stopped : goal.returns-in_err-types-clause-stopped
returns-in_err-types-clause-stopped g c =
    let text = c.args.source.now in
    let t = c.requires.shaped in
    let scoped = c.in_ok-names.ensures.scoped t.0 t.1 in
    let are = c.in_ok-names.ensures.names t.0 t.1 in
    handed_on (Stops ((u : Tree Prog) → ¬ IsChecked text u) text) c.from_residual-in_err-types.result c.in_err-types.field-0.0 c.from_residual-in_err-types.ensures.1
    (stopped text c.in_err-types.field-0.0 (c.in_err-types.ensures.refused t.0 t.1 scoped are) (c.in_err-types.ensures.faulty t.0 t.1 scoped are)
    (λ none u is. none (subst (λ k. type_faults (ast k) ≡ []) (c.one_tree_of_text.ensures text u t.0 is.tree t.1.tree) is.typed)))
