use Rattle.std.proofs.Common.{◌≡◌, ◌%◌, ◌++◌, length, ap, ◌∙◌, append_assoc}
use Rattle.std.specs.Prelude.{codes}
use Rattle.rv_text.specs.Written.{hexadecimal, listed}
use Rattle.elf_text.specs.Listing.{line, whole_words, rest, code_listed}
use Rattle.elf_text.proofs.listing.push_code.Goals as goal

pub returns : goal.returns
returns c =
    let old = c.args.out.now.items in
    let first = line (codes "# 0x" ++ hexadecimal c.args.start) in
    let second = listed (whole_words c.args.bytes.now) in
    let last = rest (length c.args.bytes.now % 4) in
    let a : c.push_address.new.out.items ≡ old ++ first = c.in_ok-push_address.ensures in
    let b : c.push_words.new.out.items ≡ c.push_address.new.out.items ++ second = c.in_ok-push_words.ensures in
    let d : c.extend_from_slice.new.self.items ≡ c.push_words.new.out.items ++ c.rest.result.now = c.in_ok-extend_from_slice.ensures.items in
    d ∙ ((λ i. b i ++ c.rest.ensures i)
    ∙ (ap (λ xs. (xs ++ second) ++ last) a
    ∙ (append_assoc (old ++ first) second last ∙ append_assoc old first (second ++ last))))
