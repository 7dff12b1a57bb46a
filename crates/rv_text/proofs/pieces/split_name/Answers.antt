use Rattle.std.proofs.Common.{◌≡◌, length, take, drop, ap, ◌∙◌}
use Rattle.std.specs.Prelude.{unwrap_or}
use Rattle.std.specs.List.{position_or_len}
use Rattle.rv_text.specs.Reading.{is_blank}
use Rattle.rv_text.proofs.Cuts.{rest_is}
use Rattle.rv_text.proofs.Steps.{place}
use Rattle.rv_text.proofs.pieces.split_name.Goals as goal

pub returns-clause-name : goal.returns-clause-name
returns-clause-name c =
    let text = c.args.text.now in
    let e : c.unwrap_or-end.result ≡ position_or_len is_blank text = c.unwrap_or-end.ensures ∙ (ap (λ o. unwrap_or o (length text)) c.find_blank.ensures ∙ place is_blank text) in
    ap (λ n. take n text) e

pub returns-clause-rest : goal.returns-clause-rest
returns-clause-rest c =
    let text = c.args.text.now in
    let e : c.unwrap_or-end.result ≡ position_or_len is_blank text = c.unwrap_or-end.ensures ∙ (ap (λ o. unwrap_or o (length text)) c.find_blank.ensures ∙ place is_blank text) in
    rest_is c.unwrap_or-end.result text ∙ ap (λ n. drop n text) e
