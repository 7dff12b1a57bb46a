-- What is left of a list behind its first n items.
use Rattle.std.proofs.Common.{◌≡◌, ℕ, ◌-◌, List, length, take, drop, length-drop}
use Rattle.std.proofs.Math.Seq.{take-length}

pub rest_all : (n : ℕ) (xs : List ℕ) → take (length xs - n) (drop n xs) ≡ drop n xs
rest_all n xs = simp (← length-drop) (take-length (drop n xs))
