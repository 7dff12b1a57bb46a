-- The stretches of addresses that regions take, and where to find the one that has an address.
use Rattle.std.specs.Prelude.{◌≡◌, ℕ, ◌+◌, ◌<◌, ◌≤◌, List, All, Contains, map, length, get_or, false, Option, MatchOption}
use Rattle.std.specs.List.Sorted.{IsNonDecreasingBy}
use Rattle.rv_isa.specs.Memory.{Region}
use Rattle.elf_file.specs.Load.{overlap}
use Rattle.rv32_emul.specs.declared.places.Place.{Place}

-- the first address of each region and the one behind its last
abbrev pub stretch_of : Region → ℕ × ℕ
stretch_of r = (r.start, r.start + length r.bytes)

abbrev pub stretches : List Region → List (ℕ × ℕ)
stretches regions = map stretch_of regions

-- no two of them share an address
abbrev pub AreApart : List (ℕ × ℕ) → Type 0
AreApart ss = (i j : ℕ) → i < j → j < length ss → overlap (get_or ss j (0, 0)).0 (get_or ss j (0, 0)).1 (get_or ss i (0, 0)).0 (get_or ss i (0, 0)).1 ≡ false

-- an address lies in a stretch
abbrev pub Covers : ℕ × ℕ → ℕ → Type 0
Covers s address = (s.0 ≤ address) × (address < s.1)

-- the place of a stretch that has an address
abbrev pub IsPlaceOf : List (ℕ × ℕ) → Place → Type 0
IsPlaceOf ss p = (p.region < length ss) × ((get_or ss p.region (0, 0)).0 ≡ p.start) × (p.start < (get_or ss p.region (0, 0)).1)

-- the places of those of the first n stretches that have an address
pub record HavePlaces (ss : List (ℕ × ℕ)) (n : ℕ) (places : List Place) : Type 0 where
  pub sound : All (IsPlaceOf ss) places
  pub whole : (k : ℕ) → k < n → (get_or ss k (0, 0)).0 < (get_or ss k (0, 0)).1 → Contains places (record { start = (get_or ss k (0, 0)).0; region = k })

-- the places of all that have one, in the order of the addresses
abbrev pub ArePlacesOf : List (ℕ × ℕ) → List Place → Type 0
ArePlacesOf ss places = IsNonDecreasingBy (λ p. p.start) places × HavePlaces ss (length ss) places

-- no other stretch than this one has the address
abbrev pub IsOnly : List (ℕ × ℕ) → ℕ → Option ℕ → Type 0
IsOnly ss address result = MatchOption result
    ((k : ℕ) → k < length ss → Covers (get_or ss k (0, 0)) address → ⊥)
    (λ i. (i < length ss) × ((k : ℕ) → k < length ss → Covers (get_or ss k (0, 0)) address → k ≡ i))
