use Rattle.std.proofs.Common.{rules, ◌≡◌, ◌∙◌, ℕ, List, [], ◌∷◌, ◌++◌, true, length, map, take, drop, ap, sym, append_assoc}
use Rattle.std.proofs.lemmas.List.{drop_at, take_at}
use Rattle.text_columns.specs.Columns.{spaced, trimmed}
use Rattle.text_columns.specs.Lines.{padded_in}
use Rattle.text_columns.proofs.Joined.{trimmed_of_spaces}
use Rattle.text_columns.proofs.table.push_line.Goals as goal

pub returns : goal.returns
returns c =
    let written = c.in_ok-push_parts.ensures in
    let parts = spaced true (map (padded_in c.args.line) c.args.columns.now) in
    let line : trimmed written.part ≡ trimmed parts = sym (trimmed_of_spaces written.part written.lacking) ∙ ap (λ (x : List ℕ). trimmed x) written.all in
    let old = c.args.out.now.items in
    let start = c.len-start.result in
    let many : length old ≡ start = search rules in
    let trim : c.trim.new.out.items ≡ old ++ trimmed parts =
    c.trim.ensures ∙ ap (λ (x : List ℕ). take start x ++ trimmed (drop start x)) written.put
    ∙ (λ i. take_at old written.part start many i ++ trimmed (drop_at old written.part start many i))
    ∙ ap (λ (x : List ℕ). old ++ x) line in
    c.in_ok-push.ensures.items ∙ ap (λ (x : List ℕ). x ++ 10 ∷ []) trim ∙ append_assoc old (trimmed parts) (10 ∷ [])
