use Rattle.std.proofs.Common.{◌≤◌, sym, ap, ◌∙◌, subst, arith}
use Rattle.std.specs.Prelude.{nat_eq}
use Rattle.ast_rows.specs.NodeRows.{parent_numbers}
use Rattle.par_passes.specs.Laws.Calling.{if_ok}
use Rattle.folded_rows.specs.Columns.{Columns, number_in}
use Rattle.fold_pass.proofs.Refolded.{lows_low}
use Rattle.fold_pass.proofs.Whole.{enough_out, few_out, literals_out, many_out, names_out, none_fold, rounds_out, rows_out, same_names, same_rows}
use Rattle.fold_pass.proofs.pass.fold.Goals as goal

-- where nothing folds
pub returns-then-is_empty-clause-rows : goal.returns-then-is_empty-clause-rows
returns-then-is_empty-clause-rows g c =
    λ p shaped. same_rows c.columns_of_rows-columns.result c.args.rows c.columns_of_rows-columns.ensures c.tokens_are_told.ensures (none_fold c.columns_of_rows-columns.result c.in_ok-folding_rows.field-0.items c.is_empty.result c.in_ok-folding_rows.ensures (c.is_empty.ensures ∙ ap (λ n. nat_eq n 0) c.in_ok-folding_rows.field-0.ok.0) c.if-is_empty.true) c.nothing_folds.ensures.same p

pub returns-then-is_empty-clause-names : goal.returns-then-is_empty-clause-names
returns-then-is_empty-clause-names g c =
    λ p end shaped scoped is. same_names c.columns_of_rows-columns.result c.args.rows c.columns_of_rows-columns.ensures c.tokens_are_told.ensures (none_fold c.columns_of_rows-columns.result c.in_ok-folding_rows.field-0.items c.is_empty.result c.in_ok-folding_rows.ensures (c.is_empty.ensures ∙ ap (λ n. nat_eq n 0) c.in_ok-folding_rows.field-0.ok.0) c.if-is_empty.true) c.nothing_folds.ensures.same c.args.names p is

pub returns-then-is_empty-clause-enough : goal.returns-then-is_empty-clause-enough
returns-then-is_empty-clause-enough g c = (0, omega arith, literals_out c.columns_of_rows-columns.result c.args.rows c.columns_of_rows-columns.ensures c.tokens_are_told.ensures (none_fold c.columns_of_rows-columns.result c.in_ok-folding_rows.field-0.items c.is_empty.result c.in_ok-folding_rows.ensures (c.is_empty.ensures ∙ ap (λ n. nat_eq n 0) c.in_ok-folding_rows.field-0.ok.0) c.if-is_empty.true))

pub fold_columns-requires-clause-lows : goal.fold_columns-requires-clause-lows
fold_columns-requires-clause-lows g c κs within = λ k. subst (λ (q : Columns). number_in q.lows k ≤ k) (sym c.columns_of_rows-columns.ensures) (lows_low (parent_numbers 0 c.args.rows) k)

pub returns-clause-rows : goal.returns-clause-rows
returns-clause-rows g c = if_ok c.fold_columns.result c.fold_columns.ensures.folded (λ v f.
    rows_out c.columns_of_rows-columns.result c.args.rows c.columns_of_rows-columns.ensures c.tokens_are_told.ensures f.0 c.args.names v.1 v.0 f.1 c.rows_have_levels.ensures.linked c.folded_rows_are.ensures)

pub returns-clause-names : goal.returns-clause-names
returns-clause-names g c = if_ok c.fold_columns.result c.fold_columns.ensures.folded (λ v f.
    names_out c.columns_of_rows-columns.result c.args.rows c.columns_of_rows-columns.ensures c.tokens_are_told.ensures f.0 c.args.names v.1 v.0 f.1 c.rows_have_levels.ensures.linked c.folded_names_are.ensures c.shaped_is_named.ensures c.sites_are_rows.ensures)

pub returns-clause-many : goal.returns-clause-many
returns-clause-many g c = if_ok c.fold_columns.result c.fold_columns.ensures.folded (λ v f.
    λ m n. many_out c.columns_of_rows-columns.result f.0 c.args.names v.1 v.0 f.1)

pub returns-clause-few : goal.returns-clause-few
returns-clause-few g c = if_ok c.fold_columns.result c.fold_columns.ensures.folded (λ v f.
    few_out c.columns_of_rows-columns.result c.args.rows c.columns_of_rows-columns.ensures f.0 c.args.names v.1 v.0 f.1)

pub returns-clause-rounds : goal.returns-clause-rounds
returns-clause-rounds g c =
    let r = c.fold_columns.ensures.rounds in
    (r.0, r.1, rounds_out c.columns_of_rows-columns.result c.args.rows c.columns_of_rows-columns.ensures c.tokens_are_told.ensures c.rows_have_levels.ensures.heights r.0 r.2)

pub returns-clause-enough : goal.returns-clause-enough
returns-clause-enough g c = if_ok c.fold_columns.result c.fold_columns.ensures.enough (λ v e.
    (e.0, e.1, enough_out c.columns_of_rows-columns.result c.args.rows c.columns_of_rows-columns.ensures c.tokens_are_told.ensures c.rows_have_levels.ensures.linked e.0 e.2))
