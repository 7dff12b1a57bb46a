use Rattle.std.proofs.Common.{◌≡◌, length, take, ap, ◌∙◌}
use Rattle.std.specs.Prelude.{unwrap_or, ◌==◌}
use Rattle.std.specs.List.{position_or_len}
use Rattle.rv_text.proofs.Steps.{place}
use Rattle.rv_text.proofs.pieces.without_comment.Goals as goal

pub returns : goal.returns
returns c =
    let line = c.args.line.now in
    let e : c.unwrap_or-end.result ≡ position_or_len (λ b. b == 0x23) line = c.unwrap_or-end.ensures ∙ (ap (λ o. unwrap_or o (length line)) c.find_comment.ensures ∙ place (λ b. b == 0x23) line) in
    ap (λ n. take n line) e
