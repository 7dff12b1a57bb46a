-- Parts of a text, one behind the other.
use Rattle.std.proofs.Common.{◌≡◌, ◌∙◌, ℕ, List, [], ◌++◌, ap, append_assoc}
use Rattle.std.proofs.lemmas.List.{append-nil}

pub further : (old done part before now : List ℕ) → before ≡ old ++ done → now ≡ before ++ part → now ≡ old ++ (done ++ part)
further old done part before now is put = put ∙ ap (λ (l : List ℕ). l ++ part) is ∙ append_assoc old done part

pub eight_parts : (a b c d e f g h : List ℕ) → a ++ b ++ c ++ d ++ e ++ f ++ g ++ h ≡ a ++ (b ++ (c ++ (d ++ (e ++ (f ++ (g ++ (h ++ [])))))))
eight_parts a b c d e f g h = simp (append_assoc, append-nil)
