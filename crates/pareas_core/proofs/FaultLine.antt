-- A fault's line, as the formatter writes it.
use Rattle.std.proofs.Common.{◌≡◌, ◌∙◌, ◌-◌, ◌++◌, ℕ, false, ap, ap₂, arith, List, [], Some, length, replicate, append-nil, append_assoc, sym}
use Rattle.std.specs.Fmt.{digits, digits_output, styled_digits_output, format_spec, padded_integral, char_count}
use Rattle.pareas_core.specs.Output.{hexadecimal}

minus_none : (n : ℕ) → n - 0 - 0 ≡ n
minus_none n = omega arith

padded_word : (ds : List ℕ) → padded_integral (format_spec 32 0 4 8 18446744073709551615) false [] ds ≡ replicate (8 - length ds) 48 ++ ds
unfolding padded_integral char_count
padded_word ds = ap₂ (λ n xs. replicate n 48 ++ xs) (minus_none (8 - length ds)) (append-nil ds)

pub eight_digits : (d : _) (s : _) (word : ℕ) → digits_output d ≡ Some (digits 16 false word) → s ≡ format_spec 32 0 4 8 18446744073709551615
    → styled_digits_output d s ≡ Some (hexadecimal word)
eight_digits d s word digits_are laid = rw (laid, digits_are) (ap Some (padded_word (digits 16 false word)))

pub left_nested : (a b c d : List ℕ) → a ++ (b ++ (c ++ d)) ≡ ((a ++ b) ++ c) ++ d
left_nested a b c d = sym (append_assoc (a ++ b) c d ∙ append_assoc a b (c ++ d))
