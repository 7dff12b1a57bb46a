-- Entrances that are found, and those whose right sides are still to be walked.
use Rattle.std.specs.Prelude.{◌≡◌, ℕ, ◌+◌, ◌*◌, ◌<◌, ◌≤◌, ◌⊎◌, List, [], ◌∷◌, length, Bool, true, false, if◌then◌else◌, Some, slice_get, slice_index_or}
use Rattle.grammar_file.specs.declared.symbols.Symbol.TheVariants.{Nonterminal}
use Rattle.llp_wide.specs.declared.places.Entrance.{Entrance}
use Rattle.llp_wide.specs.Added.{IsIn, SomeBelow}
use Rattle.llp_wide.specs.Places.{Spot}

-- where the mark of an entrance stands, among this many nonterminals
abbrev pub place_of : ℕ → Entrance → ℕ
place_of count e = e.before * count + e.nonterminal

abbrev pub IsFound : ℕ → List Bool → Entrance → Type 0
IsFound count marks e = slice_index_or marks (place_of count e) false ≡ true

abbrev pub unfound : List Bool → ℕ
unfound [] = 0
unfound (m ∷ marks) = (if m then 0 else 1) + unfound marks

-- what is asked is found now, and what is found anew is still to be walked
pub record Finds (count : ℕ) (asked : Entrance → Type 0) (marks0 : List Bool) (open0 : List Entrance) (marks1 : List Bool) (open1 : List Entrance) : Type 0 where
  pub size : length marks1 ≡ length marks0
  pub room : length open1 + unfound marks1 ≤ length open0 + unfound marks0
  pub keeps : (e : Entrance) → IsFound count marks0 e → IsFound count marks1 e
  pub still : (e : Entrance) → IsIn open0 e → IsIn open1 e
  pub from : (e : Entrance) → IsIn open1 e → IsIn open0 e ⊎ asked e
  pub opens : (e : Entrance) → e.nonterminal < count → IsFound count marks1 e → IsFound count marks0 e ⊎ IsIn open1 e
  pub meets : (e : Entrance) → asked e → IsFound count marks1 e

-- the spot's symbol is a nonterminal, and this is its entrance
abbrev pub Opens : Spot → Entrance → Type 0
Opens spot e = (spot.symbol ≡ Nonterminal e.nonterminal) × (spot.before ≡ e.before)

-- one of the first n spots opens it
abbrev pub OpensIn : List Spot → ℕ → Entrance → Type 0
OpensIn spots n = SomeBelow n (λ k e. (spot : Spot) × (slice_get spots k ≡ Some spot) × Opens spot e)

-- the marks have a place for each entrance that the spots open
abbrev pub HaveRoom : ℕ → List Spot → ℕ → Type 0
HaveRoom count spots size = (spot : Spot) → IsIn spots spot → (e : Entrance) → Opens spot e → (e.nonterminal < count) × (place_of count e < size)
