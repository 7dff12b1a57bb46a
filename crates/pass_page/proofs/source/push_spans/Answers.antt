use Rattle.std.proofs.Common.{◌≡◌, ℕ, ◌+◌, ◌-◌, ◌<◌, List, ◌++◌, ◌∙◌, ap, drop, rules, take, length, get_or, arith}
use Rattle.std.specs.Prelude.{codes}
use Rattle.pass_page.specs.Page.{escaped, spans}
use Rattle.pass_page.proofs.Told.{starts, lengths, next_span}
use Rattle.pass_page.proofs.source.push_spans.Goals as goal

pub loop-k-preserved : goal.loop-k-preserved
loop-k-preserved c =
    let text = c.args.text.now in
    let tokens = c.args.tokens.now in
    let k = c.loop-k.k in
    let place = c.loop-k.place in
    let within : k < length tokens = omega (arith, c.loop-k-test.true, c.len-k-end.ensures) in
    let start : c.number_at-start.result ≡ get_or (starts tokens) k 0 = c.number_at-start.ensures ∙ ap (λ (xs : List ℕ). get_or xs k 0) c.starts.ensures in
    let long : c.number_at-length.result ≡ get_or (lengths tokens) k 0 = c.number_at-length.ensures ∙ ap (λ (xs : List ℕ). get_or xs k 0) c.lengths.ensures in
    let rest = spans text (c.number_at-start.result + c.number_at-length.result) (drop (k + 1) tokens) in
    let gap : c.stretch_at.result.now ≡ take (c.number_at-start.result - place) (drop place text) = search rules in
    ap (λ (x : List ℕ). x ++ rest) c.in_ok-push_span.ensures
    ∙ (λ i. c.in_ok-push_escaped.ensures i ++ codes "<span>" ++ escaped (c.stretch_at-in-loop-k.ensures i) ++ codes "</span>" ++ rest)
    ∙ (λ i. c.loop-k.out.items ++ escaped (gap i) ++ codes "<span>" ++ escaped (take c.number_at-length.result (drop c.number_at-start.result text)) ++ codes "</span>" ++ rest)
    ∙ next_span text tokens k place c.number_at-start.result c.number_at-length.result c.loop-k.out.items within start long
    ∙ c.loop-k.invariant
