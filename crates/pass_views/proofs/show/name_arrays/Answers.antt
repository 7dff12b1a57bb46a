use Rattle.std.proofs.Common.{arith}
use Rattle.source_meaning.specs.Grammar.{ast}
use Rattle.pass_views.proofs.NamesShown.{are_names}
use Rattle.pass_views.proofs.Showing.{passed_on, names_only}
use Rattle.pass_views.proofs.show.name_arrays.Goals as goal

pub name_columns-requires : goal.name_columns-requires
name_columns-requires g c = let few = c.in_ok-rows.ensures.few in record { few = omega arith }

pub returns-clause-shown : goal.returns-clause-shown
returns-clause-shown g c =
    let s = c.in_ok-rows.ensures.scoped in
    let named = c.shaped_is_named.ensures (ast s.0) s.1.shaped.shaped in
    are_names c.args.source.now c.in_ok-rows.rows c.in_ok-rows.names c.in_ok-name_columns.field-0.items s.0 s.1 s.2.are s.3 named
    (c.names_are_bindings.ensures.names (ast s.0) named) (c.names_are_bindings.ensures.calls (ast s.0) named) c.in_ok-name_columns.ensures

pub returns-in_err-rows-clause-stopped : goal.returns-in_err-rows-clause-stopped
returns-in_err-rows-clause-stopped g c =
    passed_on c.args.source.now c.from_residual.result c.in_err-rows.field-0.0 c.from_residual.ensures.1
    (λ none columns is. let h = names_only c.args.source.now columns is in none h.0 h.1) c.in_err-rows.ensures.stopped
