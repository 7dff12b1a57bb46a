use Rattle.std.proofs.Common.{◌≡◌, length, take, drop, ap, ◌∙◌}
use Rattle.std.specs.Prelude.{unwrap_or}
use Rattle.std.specs.List.{prefix_len}
use Rattle.std.specs.Char.{is_digit}
use Rattle.rv_text.proofs.Cuts.{rest_is}
use Rattle.rv_text.proofs.Steps.{run_place}
use Rattle.rv_text.proofs.pieces.split_digits.Goals as goal

pub returns-clause-digits : goal.returns-clause-digits
returns-clause-digits c =
    let text = c.args.text.now in
    let e : c.unwrap_or-end.result ≡ prefix_len (λ b. is_digit b c.args.radix) text = c.unwrap_or-end.ensures ∙ (ap (λ o. unwrap_or o (length text)) c.find_behind_digits.ensures ∙ run_place (λ b. is_digit b c.args.radix) text) in
    ap (λ n. take n text) e

pub returns-clause-rest : goal.returns-clause-rest
returns-clause-rest c =
    let text = c.args.text.now in
    let e : c.unwrap_or-end.result ≡ prefix_len (λ b. is_digit b c.args.radix) text = c.unwrap_or-end.ensures ∙ (ap (λ o. unwrap_or o (length text)) c.find_behind_digits.ensures ∙ run_place (λ b. is_digit b c.args.radix) text) in
    rest_is c.unwrap_or-end.result text ∙ ap (λ n. drop n text) e
