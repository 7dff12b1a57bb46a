use Rattle.std.proofs.Common.{◌≡◌, length, drop, ap, ◌∙◌}
use Rattle.std.specs.Prelude.{unwrap_or}
use Rattle.std.specs.List.{prefix_len}
use Rattle.rv_text.specs.Reading.{is_blank}
use Rattle.rv_text.proofs.Cuts.{rest_is}
use Rattle.rv_text.proofs.Steps.{run_place}
use Rattle.rv_text.proofs.pieces.unindented.Goals as goal

pub returns : goal.returns
returns c =
    let text = c.args.text.now in
    let e : c.unwrap_or-start.result ≡ prefix_len is_blank text = c.unwrap_or-start.ensures ∙ (ap (λ o. unwrap_or o (length text)) c.find_text.ensures ∙ run_place is_blank text) in
    rest_is c.unwrap_or-start.result text ∙ ap (λ n. drop n text) e
