use Rattle.std.proofs.Common.{◌≡◌, ℕ, ◌∙◌, ap, length, map, arith}
use Rattle.std.specs.Prelude.{codes}
use Rattle.std.specs.List.{range_with_len}
use Rattle.text_columns.specs.declared.column.Align.TheVariants.{Left}
use Rattle.pass_tables.specs.Tables.{texts, token_text}
use Rattle.pass_tables.proofs.Cells.{next_place}
use Rattle.pass_tables.proofs.Told.{lexemes_by_places}
use Rattle.pass_tables.proofs.tokens.lexemes.Goals as goal

pub loop-k-preserved : goal.loop-k-preserved
loop-k-preserved c =
    next_place (token_text c.args.text.now c.args.tokens.now) (codes "text") Left c.loop-k.k c.lexeme.result.now c.loop-k.column c.push.new.self c.loop-k.invariant c.in_ok-push.ensures.ok
    c.lexeme.ensures

pub returns : goal.returns
returns c =
    let all : c.loop-k.k ≡ length c.args.tokens.now = omega (arith, c.loop-k-test.false, c.loop-k.auto.k-end, c.len-k-end.ensures) in
    c.loop-k.invariant
    ∙ ap (λ (n : ℕ). texts (codes "text") (map (token_text c.args.text.now c.args.tokens.now) (range_with_len 0 n))) all
    ∙ ap (λ cells. texts (codes "text") cells) (lexemes_by_places c.args.text.now c.args.tokens.now)
