use Rattle.std.proofs.Common.{◌≡◌, ◌∷◌, length, take, drop, sym, ◌∙◌, ◌+◌, ◌-◌, arith}
use Rattle.std.specs.Str.Lines.{lines}
use Rattle.std.proofs.lemmas.List.{take_all, length-drop}
use Rattle.rv_text.proofs.Cuts.{lines_some, lines_none, some_of}
use Rattle.rv_text.proofs.lines.split_line.Goals as goal

pub returns-in-Some-clause-parts : goal.returns-in-Some-clause-parts
returns-in-Some-clause-parts c =
    let text = c.args.text.now in
    let end = c.in-Some.end in
    let at = sym c.find_feed.ensures ∙ c.in-Some.is in
    let rest : take (length text - (end + 1)) (drop (end + 1) text) ≡ drop (end + 1) text = take_all _ (drop (end + 1) text) (omega (arith, length-drop (end + 1) text)) in
    lines_some text end at ∙ (λ i. sym c.without_return.ensures i ∷ lines (sym rest i))

pub returns-in-None-clause-parts : goal.returns-in-None-clause-parts
returns-in-None-clause-parts c = lines_none c.args.text.now (some_of (length c.args.text.now) (sym c.if-is_empty.ensures)) (sym c.find_feed.ensures ∙ c.in-None.is)
