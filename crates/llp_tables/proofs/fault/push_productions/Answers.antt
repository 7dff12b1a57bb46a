use Rattle.std.proofs.Common.{◌≡◌, ◌∙◌, ◌++◌, codes, ap, sym, List, ℕ, append_assoc}
use Rattle.std.specs.Prelude.{decimal}
use Rattle.llp_tables.proofs.fault.push_productions.Goals as goal

nested : (x a b c d : List ℕ) → x ++ (a ++ (b ++ (c ++ d))) ≡ x ++ a ++ b ++ c ++ d
nested x a b c d = sym (append_assoc (x ++ a ++ b) c d ∙ append_assoc (x ++ a) b (c ++ d) ∙ append_assoc x a (b ++ (c ++ d)))

pub returns : goal.returns
returns c =
    let productions : c.as_bytes.result.now ≡ codes ": productions " ++ (decimal c.args.p1 ++ (codes " " ++ decimal c.args.p2)) = c.as_bytes.ensures.value ∙ c.in_ok-productions.ensures.ok in
    let text = c.args.text.now.items in
    c.in_ok-extend_from_slice.ensures.items ∙ ap (λ more. text ++ more) productions ∙ nested text (codes ": productions ") (decimal c.args.p1) (codes " ") (decimal c.args.p2)
