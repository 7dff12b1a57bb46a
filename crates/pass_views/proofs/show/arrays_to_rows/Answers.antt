use Rattle.std.proofs.Common.{◌∙◌, ap}
use Rattle.source_meaning.specs.Grammar.{Tree, Prog, grammar}
use Rattle.pass_tables.specs.Tables.{parse_columns}
use Rattle.pass_views.specs.Stopped.{Stops}
use Rattle.pass_views.specs.Shown.{IsShaped}
use Rattle.back_end.specs.Laws.HandedOn.{handed_on}
use Rattle.pass_views.proofs.Showing.{are_rows, are_steps, are_tokens, passed_on, stopped}
use Rattle.pass_views.proofs.show.arrays_to_rows.Goals as goal

pub returns-clause-tabled : goal.returns-clause-tabled
returns-clause-tabled g c = c.in_ok-tokens.ensures.tabled

pub returns-clause-tokens : goal.returns-clause-tokens
returns-clause-tokens g c = are_tokens c.args.source.now c.in_ok-tokens.tokens c.in_ok-token_columns.field-0.items c.in_ok-tokens.ensures.lexed c.in_ok-token_columns.ensures

pub returns-clause-parse : goal.returns-clause-parse
returns-clause-parse g c =
    let t = c.in_ok-tokens.ensures.parsed in
    are_steps c.args.source.now _ _ c.in_ok-production_arrays.field-0.items t.0 c.in_ok-tokens.ensures.lexed t.1 t.2 (c.in_ok-production_arrays.ensures ∙ ap (parse_columns grammar) c.deref-2.ensures.value)

pub returns-clause-rows : goal.returns-clause-rows
returns-clause-rows g c =
    let t = c.in_ok-rows.ensures.ok in
    are_rows c.args.source.now c.in_ok-tokens.tokens c.in_ok-rows.rows c.in_ok-row_columns.field-0.items t.0 c.in_ok-tokens.ensures.lexed t.1 c.in_ok-row_columns.ensures

pub returns-in_err-tokens-clause-stopped : goal.returns-in_err-tokens-clause-stopped
returns-in_err-tokens-clause-stopped g c =
    passed_on c.args.source.now c.from_residual.result c.in_err-tokens.field-0.0 c.from_residual.ensures.1 (λ none t is. none t is.parsed) c.in_err-tokens.ensures.stopped

pub returns-in_err-rows-clause-stopped : goal.returns-in_err-rows-clause-stopped
returns-in_err-rows-clause-stopped g c =
    let text = c.args.source.now in
    handed_on (Stops ((t : Tree Prog) → ¬ IsShaped text t) text) c.from_residual-in_err-rows.result c.in_err-rows.field-0.0 c.from_residual-in_err-rows.ensures.1
    (stopped text c.in_err-rows.field-0.0 c.in_err-rows.ensures.refused c.in_err-rows.ensures.faulty (λ none t is. none t is.parsed.tree is.shaped))
