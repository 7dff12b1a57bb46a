use Rattle.std.proofs.Common.{sym, ap, ◌∙◌, ◌∷◌}
use Rattle.std.specs.Prelude.{option_and_then}
use Rattle.rv_text.specs.Reading.{word_in}
use Rattle.rv_text.proofs.Steps.{three_and_more}
use Rattle.rv_text.proofs.mnemonics.behind_two.Goals as goal

pub returns-in-Some-default-Some : goal.returns-in-Some-default-Some
returns-in-Some-default-Some c =
    let read = rw c.in-Some-default-Some.field-0-1-is at c.in-Some-default-Some.ensures.read in
    sym (ap (option_and_then (λ more. word_in c.args.name.now (c.args.first ∷ c.args.second ∷ more))) read
    ∙ three_and_more c.args.name.now c.args.first c.args.second c.in-Some-default-Some.field-0-0 c.in-Some-default-Some.field-0-1-0.now)
