-- Where symbols stand in right sides, with the terminal that is matched last before them and before the right side.
use Rattle.std.specs.Prelude.{◌≡◌, ◌≢◌, ◌⊎◌, ℕ, ◌+◌, ◌*◌, List, [], Bool, true, length, take, drop, Some, slice_get, slice_index_or}
use Rattle.grammar_file.specs.declared.symbols.Symbol.{Symbol}
use Rattle.grammar_file.specs.declared.symbols.Symbol.TheVariants.{Terminal, Nonterminal}
use Rattle.grammar_file.specs.Grammar.{Grammar, Production}
use Rattle.llp_wide.specs.declared.endings.LastMarks.{LastMarks}
use Rattle.llp_wide.specs.declared.places.Entrance.{Entrance}
use Rattle.llp_wide.specs.WideBehind.{IsEntered, IsWidePlace, any_before}
use Rattle.llp_wide.specs.Endings.{is_reached}
use Rattle.llp_wide.specs.Added.{IsIn, SomeBelow}

-- in a right side of the owner, which is entered where that terminal is matched last, the symbol is reached with `before` matched last, and `after` stands behind it
pub record Spot : Type 0 where
  pub before : ℕ
  pub symbol : Symbol
  pub owner : Entrance
  pub after : List Symbol

-- symbol k of a right side of the owner, reached with y matched last
abbrev pub IsSpotAt : List Bool → List LastMarks → Entrance → List Symbol → ℕ → ℕ → Spot → Type 0
IsSpotAt nullable all owner right k y spot =
    (is_reached nullable all owner.before y (take k right) ≡ true) × (slice_get right k ≡ Some spot.symbol) × (spot.before ≡ y) × (spot.owner ≡ owner) × (spot.after ≡ drop (k + 1) right)

-- the same for some terminal that is matched last, and some symbol
abbrev pub IsSpotOf : List Bool → List LastMarks → Entrance → List Symbol → ℕ → Spot → Type 0
IsSpotOf nullable all owner right k = SomeBelow (length all) (IsSpotAt nullable all owner right k)

abbrev pub IsSpotIn : List Bool → List LastMarks → Entrance → List Symbol → Spot → Type 0
IsSpotIn nullable all owner right = SomeBelow (length right) (IsSpotOf nullable all owner right)

-- the same for some right side of the owner
abbrev pub IsSpotBy : List Bool → List LastMarks → Entrance → List Production → ℕ → Spot → Type 0
IsSpotBy nullable all owner productions i spot = (rule : Production) × (slice_get productions i ≡ Some rule) × (rule.left ≡ owner.nonterminal) × IsSpotIn nullable all owner rule.right spot

abbrev pub IsSpotUnder : List Bool → List LastMarks → List Production → Entrance → Spot → Type 0
IsSpotUnder nullable all productions owner = SomeBelow (length productions) (IsSpotBy nullable all owner productions)

-- the nonterminal of the owner itself, where any terminal is matched last before it
abbrev pub IsGathering : List LastMarks → Entrance → Spot → Type 0
IsGathering all owner spot = (owner.before ≢ length all) × (spot ≡ record { before = length all; symbol = Nonterminal owner.nonterminal; owner = owner; after = [] })

abbrev pub IsSpotOn : List Bool → List LastMarks → List Production → Entrance → Spot → Type 0
IsSpotOn nullable all productions owner spot = IsSpotUnder nullable all productions owner spot ⊎ IsGathering all owner spot

-- the spots of an owner, in a list of all owners' spots by number
abbrev pub spots_of : ℕ → List (List Spot) → ℕ → ℕ → List Spot
spots_of count groups before nonterminal = slice_index_or groups (before * count + nonterminal) []

-- the spots of a symbol's right sides
abbrev pub spots_behind : ℕ → List (List Spot) → ℕ → Symbol → List Spot
spots_behind count groups before (Terminal c) = []
spots_behind count groups before (Nonterminal a) = spots_of count groups before a

-- the spot stands among those of its owner
abbrev pub IsKept : Grammar → List (List Spot) → Spot → Type 0
IsKept g groups spot = IsIn (spots_of (length g.nonterminals) groups spot.owner.before spot.owner.nonterminal) spot

-- A place of a symbol behind what is matched last before its owner; or the owner itself, where any terminal is matched last; or a place that is the
-- same whichever terminal is matched last before its owner
pub data IsSoundSpot (g : Grammar) : Spot → Type 0 where
  own : (z0 owner z : ℕ) (s : Symbol) (after : List Symbol) → IsWidePlace g z0 owner z s after
      → IsSoundSpot g (record { before = z; symbol = s; owner = record { before = z0; nonterminal = owner }; after = after })
  gathers : (z0 owner : ℕ) → IsEntered g z0 owner → IsSoundSpot g (record { before = any_before g; symbol = Nonterminal owner; owner = record { before = z0; nonterminal = owner }; after = [] })
  shared : (z0 owner z : ℕ) (s : Symbol) (after : List Symbol) → IsEntered g z0 owner → ((y : ℕ) → IsEntered g y owner → IsWidePlace g y owner z s after)
      → IsSoundSpot g (record { before = z; symbol = s; owner = record { before = any_before g; nonterminal = owner }; after = after })

-- The spots are the places of the grammar's symbols. Where a place is the same whichever terminal is matched last before its owner, it is there once, and the owner is gathered.
pub record AreSpots (g : Grammar) (groups : List (List Spot)) : Type 0 where
  pub sound : (n : ℕ) (spot : Spot) → IsIn (slice_index_or groups n []) spot → IsSoundSpot g spot
  pub complete : (z0 owner z : ℕ) (s : Symbol) (after : List Symbol) → IsWidePlace g z0 owner z s after
      → IsKept g groups (record { before = z; symbol = s; owner = record { before = z0; nonterminal = owner }; after = after })
      ⊎ (IsKept g groups (record { before = z; symbol = s; owner = record { before = any_before g; nonterminal = owner }; after = after })
      × IsKept g groups (record { before = any_before g; symbol = Nonterminal owner; owner = record { before = z0; nonterminal = owner }; after = [] }))
