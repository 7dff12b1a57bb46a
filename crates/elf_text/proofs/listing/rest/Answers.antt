use Rattle.std.proofs.Common.{◌≡◌, ◌++◌, sym, ap, ◌∙◌, arith}
use Rattle.std.specs.Prelude.{codes}
use Rattle.std.proofs.lemmas.Fmt.{decimal_digit}
use Rattle.elf_text.specs.Listing.{line, rest}
use Rattle.elf_text.proofs.listing.rest.Goals as goal

pub returns-in-1 : goal.returns-in-1
returns-in-1 c = ap (λ digits. line (codes "# rest " ++ digits)) (sym (decimal_digit 1 (omega arith))) ∙ ap rest (sym c.in-1.is)

pub returns-in-2 : goal.returns-in-2
returns-in-2 c = ap (λ digits. line (codes "# rest " ++ digits)) (sym (decimal_digit 2 (omega arith))) ∙ ap rest (sym c.in-2.is)

pub returns-in_default : goal.returns-in_default
returns-in_default c =
    let is : c.args.count ≡ 3 = omega (arith, c.in_default, c.requires) in
    ap (λ digits. line (codes "# rest " ++ digits)) (sym (decimal_digit 3 (omega arith))) ∙ ap rest (sym is)
