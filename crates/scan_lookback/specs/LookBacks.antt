-- What look-backs load.
use Rattle.std.specs.Prelude.{◌≡◌, ℕ, zero, suc, ◌%◌, ◌⊎◌, All, List, [], ◌∷◌, ◌++◌, map, flat_map}
use Rattle.scan_lookback.specs.declared.views.LookView.{LookView}

-- the word says the join of the sums up to its chunk
abbrev pub TellsPrefix : ℕ → Type 0
TellsPrefix word = word % 4 ≡ 2

-- the chunks and words that a look-back from a chunk loads: the chunk before it, then the one before that, each once, up to the first that tells a prefix, or to chunk 0
abbrev pub IsLookBack : ℕ → List (ℕ × ℕ) → Type 0
IsLookBack zero loads = loads ≡ []
IsLookBack (suc j) [] = ⊥
IsLookBack (suc j) (p ∷ more) = (p.0 ≡ j) × ((TellsPrefix p.1 × (more ≡ [])) ⊎ ((TellsPrefix p.1 → ⊥) × IsLookBack j more))

-- a seat with the view v has since shown some chunks, and looked back from each of them, in that order; its loads are these look-backs
pub record LooksBack (v w : LookView) : Type 0 where
  pub backs : List (ℕ × List (ℕ × ℕ))
  pub shown : w.shown ≡ v.shown ++ map (λ p. p.0) backs
  pub looked : w.looked ≡ v.looked ++ flat_map (λ p. p.1) backs
  pub each : All (λ p. IsLookBack p.0 p.1) backs
