-- Pieces of a text, joined from the right as the formatter does, or from the left.
use Rattle.std.proofs.Common.{◌≡◌, ℕ, ◌++◌, List, append_assoc}

pub four : (a b c d : List ℕ) → a ++ (b ++ (c ++ d)) ≡ a ++ b ++ c ++ d
four a b c d = simp (append_assoc)

pub six : (a b c d e f : List ℕ) → a ++ (b ++ (c ++ (d ++ (e ++ f)))) ≡ a ++ b ++ c ++ d ++ e ++ f
six a b c d e f = simp (append_assoc)

pub ten : (a b c d e f g h i j : List ℕ) → a ++ (b ++ (c ++ (d ++ (e ++ (f ++ (g ++ (h ++ (i ++ j)))))))) ≡ a ++ b ++ c ++ d ++ e ++ f ++ g ++ h ++ i ++ j
ten a b c d e f g h i j = simp (append_assoc)
