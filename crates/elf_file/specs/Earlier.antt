-- What a loader keeps of the segments so far: where each begins and ends, in order, so that a new one is compared with one of them alone.
use Rattle.std.specs.Prelude.{◌≡◌, ℕ, ◌+◌, ◌<◌, ◌≤◌, List, [], ◌∷◌, length, Bool, sum_by}
use Rattle.std.specs.List.{list_any}
use Rattle.elf_file.specs.Load.{Loaded, overlap, most}

-- a stretch of addresses, by its first address and the one behind its last, that has one and begins at `low` or later, with what holds of the others
pub record Follows (low : ℕ) (stretch : ℕ × ℕ) (Others : Type 0) : Type 0 where
  pub late : low ≤ stretch.0
  pub some : stretch.0 < stretch.1
  pub others : Others

-- stretches in order, of which no two share an address
abbrev pub AreApart : ℕ → List (ℕ × ℕ) → Type 0
AreApart low [] = Unit {0}
AreApart low (s ∷ ss) = Follows low s (AreApart s.1 ss)

-- the addresses from a up to b share one with a stretch
abbrev pub touches : List (ℕ × ℕ) → ℕ → ℕ → Bool
touches stretches a b = list_any (λ s. overlap a b s.0 s.1) stretches

-- they share one with a segment
abbrev pub touches_segment : List Loaded → ℕ → ℕ → Bool
touches_segment segments a b = list_any (λ s. overlap a b s.start (s.start + length s.bytes)) segments

-- the stretches are those of the segments, which share no address, and the bytes of all are counted
pub record Keeps (segments : List Loaded) (stretches : List (ℕ × ℕ)) (total : ℕ) : Type 0 where
  pub apart : AreApart 0 stretches
  pub same : (a b : ℕ) → touches stretches a b ≡ touches_segment segments a b
  pub total_is : total ≡ sum_by (λ s. length s.bytes) segments
  pub few : total ≤ most
