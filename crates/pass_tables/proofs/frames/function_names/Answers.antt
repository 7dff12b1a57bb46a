use Rattle.std.proofs.Common.{◌≡◌, ℕ, ◌+◌, suc, ◌<◌, List, [], ◌∷◌, ◌++◌, ◌∙◌, ap, sym, length, take, arith}
use Rattle.std.specs.Prelude.{codes, if◌then◌else◌}
use Rattle.std.proofs.lemmas.List.{take_all}
use Rattle.source_meaning.specs.Rows.{Row, is_function}
use Rattle.text_columns.specs.declared.column.Align.TheVariants.{Left}
use Rattle.pass_tables.specs.Tables.{function_names, kind_in, texts}
use Rattle.pass_tables.proofs.Cells.{more_cells}
use Rattle.pass_tables.proofs.Told.{names_more}
use Rattle.pass_tables.proofs.frames.function_names.Goals as goal

pub loop-k-preserved : goal.loop-k-preserved
loop-k-preserved c =
    let text = c.args.text.now in
    let tokens = c.args.tokens.now in
    let rows = c.args.rows.now in
    let k = c.loop-k.k in
    let so_far = function_names text tokens (take k rows) in
    let kept : c.is_function.result ≡ is_function (kind_in rows k) = c.is_function.ensures ∙ ap is_function c.kind_of.ensures in
    let next : k + 1 ≡ suc k = omega arith in
    let within : k < length rows = omega (arith, c.loop-k-test.true, c.len-k-end.ensures) in
    more_cells (codes "name") Left so_far (function_names text tokens (take (k + 1) rows)) (if c.is_function.result then c.text_of.result.now ∷ [] else [])
    c.loop-k.column c.push_if.new.column c.loop-k.invariant c.in_ok-push_if.ensures
    (ap (λ (n : ℕ). function_names text tokens (take n rows)) next ∙ names_more text tokens rows k within ∙ sym (λ i. so_far ++ (if kept i then c.text_of.ensures i ∷ [] else [])))

pub returns : goal.returns
returns c =
    c.loop-k.invariant
    ∙ ap (λ (rows : List Row). texts (codes "name") (function_names c.args.text.now c.args.tokens.now rows))
    (take_all c.loop-k.k c.args.rows.now (omega (arith, c.loop-k-test.false, c.len-k-end.ensures)))
