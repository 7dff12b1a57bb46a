-- The loads of the worked look-back.
use Rattle.std.proofs.Common.{◌≡◌, ℕ, ◌%◌, List, [], ◌∷◌, get_or, ap, ◌∙◌, ⊎_elim, arith}
use Rattle.std.specs.Prelude.{All}
use Rattle.scan_lookback.specs.LookBacks.{TellsPrefix, IsLookBack}

abbrev words : List ℕ
words = 0 ∷ 42 ∷ 0 ∷ 0 ∷ []

at_place : (p : ℕ × ℕ) (k : ℕ) → p.0 ≡ k → p.1 ≡ get_or words p.0 0 → p ≡ (k, get_or words k 0)
at_place p k e f = λ i. (e i, (f ∙ ap (λ (n : ℕ). get_or words n 0) e) i)

pub only_these : (loads : List (ℕ × ℕ)) → All (λ p. p.1 ≡ get_or words p.0 0) loads → IsLookBack 3 loads → loads ≡ (2, 0) ∷ (1, 42) ∷ []
only_these [] all back = absurd back
only_these (p ∷ []) all back =
    let first : p ≡ (2, 0) = at_place p 2 back.0 (all 0 p (omega arith)) in
    ⊎_elim (λ (t : TellsPrefix p.1 × ([] ≡ [])). absurd (omega (arith, t.0, ap (λ (x : ℕ × ℕ). x.1) first))) (λ (t : (TellsPrefix p.1 → ⊥) × IsLookBack 2 []). absurd t.1) back.1
only_these (p ∷ q ∷ more) all back =
    let first : p ≡ (2, 0) = at_place p 2 back.0 (all 0 p (omega arith)) in
    ⊎_elim (λ (t : TellsPrefix p.1 × (q ∷ more ≡ [])). absurd (omega (arith, t.0, ap (λ (x : ℕ × ℕ). x.1) first)))
    (λ (t : (TellsPrefix p.1 → ⊥) × IsLookBack 2 (q ∷ more)).
    let second : q ≡ (1, 42) = at_place q 1 t.1.0 (all 1 q (omega arith)) in
    ⊎_elim (λ (u : TellsPrefix q.1 × (more ≡ [])). (λ i. first i ∷ second i ∷ u.1 i)) (λ (u : (TellsPrefix q.1 → ⊥) × IsLookBack 1 more). absurd (u.0 (ap (λ (x : ℕ × ℕ). x.1 % 4) second))) t.1.1)
    back.1
