use Rattle.std.proofs.Common.{◌∙◌, ap, rules, tests}
use Rattle.std.specs.Prelude.{◌==◌, option_map}
use Rattle.std.proofs.lemmas.Iterator.{YieldsList-from_slice}
use Rattle.std.proofs.lemmas.Iterator.Search.{find_from_yields_List}
use Rattle.diagnostic_texts.specs.Explained.{shown}
use Rattle.diagnostic_texts.proofs.Found.{find_mapped, mapped_twice}
use Rattle.diagnostic_texts.proofs.explanation.row_of.Goals as goal

pub returns : goal.returns
returns c =
    let found = find_from_yields_List (λ row. row.0 == c.args.code) _ _ c.find.result c.find.ensures.ran (YieldsList-from_slice c.args.rows.now (cc)) (λ x b q k. search (rules, tests)) in
    mapped_twice shown (λ row. row.now) c.find.result ∙ ap (option_map shown) found ∙ find_mapped shown (λ e. e.code == c.args.code) c.args.rows.now
