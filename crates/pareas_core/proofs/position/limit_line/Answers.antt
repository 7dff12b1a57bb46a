use Rattle.std.proofs.Common.{◌∙◌, ◌++◌, ◌<◌, codes, length, rules, sym, subst, arith}
use Rattle.std.specs.Prelude.{decimal}
use Rattle.std.proofs.lemmas.Result.{IfOk-weaker}
use Rattle.table_text.specs.Lines.{line}
use Rattle.pareas_core.proofs.Answering.{line_is_short}
use Rattle.pareas_core.proofs.position.limit_line.Goals as goal

pub returns-clause-line : goal.returns-clause-line
returns-clause-line c =
    IfOk-weaker c.limit_text.result _ _
    (λ v is. is ∙ (λ i. line (codes "limit " ++ (decimal c.args.code ++ codes " at " ++ decimal (c.line_number-row.ensures i) ++ codes ":" ++ decimal (c.column-column.ensures i)))))
    c.limit_text.ensures

pub returns-clause-short : goal.returns-clause-short
returns-clause-short c =
    IfOk-weaker c.limit_text.result _ _
    (λ v is. subst (λ l. length l < 4294967296) (sym is)
    (line_is_short (codes "limit ") c.args.code c.line_number-row.result c.column-column.result (omega arith) c.ranges.code.fits (search rules) (search rules)))
    c.limit_text.ensures
