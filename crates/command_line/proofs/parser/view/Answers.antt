use Rattle.std.proofs.Common.{◌≡◌, ◌∙◌, ap₂, sym, codes}
use Rattle.std.specs.Prelude.{option_map}
use Rattle.std.proofs.lemmas.Result.{IfErr-weaker, IfOk-weaker}
use Rattle.clap.specs.Words.{found_of, rows_of}
use Rattle.clap.proofs.WalkLemmas.{first_value-rows}
use Rattle.command_line.specs.Words.{view_at, view_of}
use Rattle.command_line.proofs.parser.view.Goals as goal

pub returns-clause-shown : goal.returns-clause-shown
returns-clause-shown c =
    let same : view_of c.flag.result (option_map (λ s. s.now) c.get_str.result) ≡ view_at (rows_of (found_of c.args.options.now)) =
    ap₂ view_of c.flag.ensures (c.get_str.ensures ∙ first_value-rows (found_of c.args.options.now) (codes "pass")) in
    IfOk-weaker c.view_of.result _ _ (λ view h. sym same ∙ h) c.view_of.ensures.shown

pub returns-clause-refused : goal.returns-clause-refused
returns-clause-refused c =
    let same : view_of c.flag.result (option_map (λ s. s.now) c.get_str.result) ≡ view_at (rows_of (found_of c.args.options.now)) =
    ap₂ view_of c.flag.ensures (c.get_str.ensures ∙ first_value-rows (found_of c.args.options.now) (codes "pass")) in
    IfErr-weaker c.view_of.result _ _ (λ refusal h usage. sym same ∙ h usage) c.view_of.ensures.refused
