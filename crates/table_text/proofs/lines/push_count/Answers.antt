use Rattle.std.proofs.Common.{◌≡◌, ◌∙◌, ◌++◌, codes, ap, ap₂, sym, List, ℕ, [], ◌∷◌, append_assoc}
use Rattle.std.specs.Prelude.{decimal}
use Rattle.table_text.proofs.lines.push_count.Goals as goal

nested : (x a b c d : List ℕ) → x ++ a ++ (b ++ (c ++ d)) ≡ x ++ (a ++ b ++ c ++ d)
nested x a b c d =
    append_assoc x a (b ++ (c ++ d)) ∙ ap (λ l. x ++ l) (sym (append_assoc (a ++ b) c d ∙ append_assoc a b (c ++ d)))

pub returns : goal.returns
returns c =
    let number : c.as_bytes.result.now ≡ codes " " ++ (decimal c.args.number ++ (10 ∷ [])) = c.as_bytes.ensures.value ∙ c.in_ok-number.ensures.ok in
    c.in_ok-extend_from_slice-2.ensures.items ∙ ap₂ (λ x y. x ++ y) c.in_ok-extend_from_slice.ensures.items number
    ∙ nested c.args.text.now.items c.args.name.now (codes " ") (decimal c.args.number) (10 ∷ [])
