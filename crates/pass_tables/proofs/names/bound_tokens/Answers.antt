use Rattle.std.proofs.Common.{◌≡◌, ℕ, ◌∙◌, ap, length, map, arith}
use Rattle.std.specs.Prelude.{codes}
use Rattle.std.specs.List.{range_with_len}
use Rattle.text_columns.specs.declared.column.Align.TheVariants.{Right}
use Rattle.pass_tables.specs.Tables.{bound_at, number_or_dash, numbers_or_dashes}
use Rattle.pass_tables.proofs.Cells.{next_given}
use Rattle.pass_tables.proofs.names.bound_tokens.Goals as goal

pub loop-k-preserved : goal.loop-k-preserved
loop-k-preserved c =
    next_given number_or_dash (bound_at c.args.rows.now c.args.names.now.meant) (codes "declared at token") Right c.loop-k.k (number_or_dash c.bound_token.result)
    c.loop-k.column c.push_or_dash.new.column c.loop-k.invariant c.in_ok-push_or_dash.ensures (ap number_or_dash c.bound_token.ensures)

pub returns : goal.returns
returns c =
    let all : c.loop-k.k ≡ length c.args.rows.now = omega (arith, c.loop-k-test.false, c.loop-k.auto.k-end, c.len-k-end.ensures) in
    c.loop-k.invariant ∙ ap (λ (n : ℕ). numbers_or_dashes (codes "declared at token") (map (bound_at c.args.rows.now c.args.names.now.meant) (range_with_len 0 n))) all
