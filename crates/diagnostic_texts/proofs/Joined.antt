-- Pieces of a text, joined from the right as the formatter does, or from the left.
use Rattle.std.proofs.Common.{◌≡◌, ℕ, ◌++◌, List, append_assoc}

pub eight : (a b c d e f g h : List ℕ) → a ++ (b ++ (c ++ (d ++ (e ++ (f ++ (g ++ h)))))) ≡ a ++ b ++ c ++ d ++ e ++ f ++ g ++ h
eight a b c d e f g h = simp (append_assoc)

pub nine : (a b c d e f g h i : List ℕ) → a ++ (b ++ (c ++ (d ++ (e ++ (f ++ (g ++ (h ++ i))))))) ≡ a ++ b ++ c ++ d ++ e ++ f ++ g ++ h ++ i
nine a b c d e f g h i = simp (append_assoc)
