-- The walk over a left parse in stretches: what holds before each of them, what it does, and which rows it closes.
use Rattle.std.specs.Prelude.{◌≡◌, ℕ, suc, ◌-◌, ◌^◌, ◌<◌, ◌≤◌, List, [], ◌∷◌, ◌++◌, length, map, false, nat_eq, slice_index_or, if◌then◌else◌}
use Rattle.std.specs.List.{range_with_len}
use Rattle.source_meaning.specs.declared.kinds.Kind.{Kind}
use Rattle.source_meaning.specs.Grammar.{Prog, Tree, leaves, left_parse, number_of}
use Rattle.list_cuts.specs.Cuts.{number_at, AreCuts, start_of}
use Rattle.row_walk.specs.Walk.{Made, start}
use Rattle.row_pieces.specs.Pieces.{Standing, acts, closes_all, no_row, stood}
use Rattle.row_pieces.specs.Reduced.{reduced}
use Rattle.row_pieces.specs.Sound.{IsSound, rows_of}
use Rattle.row_pieces.specs.Stretches.{kids_in, level_behind, pieces_in, reads_in}
use Rattle.row_pieces.specs.declared.piece.Piece.{Piece}
use Rattle.row_pieces.specs.declared.piece.Piece.TheVariants.{Cut}
use Rattle.row_pieces.specs.declared.tally.Tally.{Tally}
use Rattle.row_columns.specs.Numbers.{IsParseOf}
use Rattle.row_columns.specs.RowFaults.{least_in}
use Rattle.row_columns.specs.Stretches.{AreStretch}
use Rattle.tree_passes.specs.declared.starts.Start.{Start}
use Rattle.tree_passes.specs.declared.walked.Stretches.{Stretches}

-- The stretches that end at these places have a whole left parse
pub record IsCut (numbers ends : List ℕ) : Type 0 where
  pub few : length numbers ≤ 536870913
  pub cuts : AreCuts ends (length numbers)
  pub count : length ends < 2 ^ 62
  pub parse : (r : Tree Prog) × (map number_of (left_parse r) ≡ numbers)

-- ---- before a place of the parse
-- how many nonterminals are open and how many owned tokens are read
abbrev pub start_at : List ℕ → ℕ → Start
start_at numbers place = record { level = level_behind numbers place 0 1; read = reads_in numbers place 0 }

-- where the walk stands
abbrev pub standing_at : List ℕ → ℕ → Standing
standing_at numbers place = acts (pieces_in numbers place 0 1 0) (stood start.rows)

-- ---- stretch c
-- what its productions open and read
abbrev pub tally_of : (numbers ends : List ℕ) → ℕ → Tally
tally_of numbers ends c =
    let from = start_of ends c in
    record { kids = kids_in numbers (number_at ends c - from) from; reads = reads_in numbers (number_at ends c - from) from }

-- what holds before it
abbrev pub start_of_stretch : (numbers ends : List ℕ) → ℕ → Start
start_of_stretch numbers ends c = start_at numbers (start_of ends c)

abbrev pub standing_before : (numbers ends : List ℕ) → ℕ → Standing
standing_before numbers ends c = standing_at numbers (start_of ends c)

-- the pieces of its productions
abbrev pub pieces_of_stretch : (numbers ends : List ℕ) → ℕ → List Piece
pieces_of_stretch numbers ends c =
    let from = start_of ends c in
    pieces_in numbers (number_at ends c - from) from (start_at numbers from).level (start_at numbers from).read

-- all that it does: the last one closes all that is left open
abbrev pub last_cut : (count : ℕ) → ℕ → List Piece
last_cut count c = if nat_eq (suc c) count then Cut 0 false ∷ [] else []

abbrev pub acts_of_stretch : (numbers ends : List ℕ) → ℕ → List Piece
acts_of_stretch numbers ends c = pieces_of_stretch numbers ends c ++ last_cut (length ends) c

-- the rows that it closes
abbrev pub rows_of_stretch : (numbers ends : List ℕ) → ℕ → List Made
rows_of_stretch numbers ends c = closes_all (acts_of_stretch numbers ends c) (standing_before numbers ends c)

-- ---- lists of these, by number
abbrev pub AreTallies : (numbers ends : List ℕ) → List Tally → Type 0
AreTallies numbers ends tallies = tallies ≡ map (tally_of numbers ends) (range_with_len 0 (length tallies))

abbrev pub AreStarts : (numbers ends : List ℕ) → List Start → Type 0
AreStarts numbers ends starts = starts ≡ map (start_of_stretch numbers ends) (range_with_len 0 (length starts))

-- what is left of the pieces of stretches
abbrev pub AreReduced : (numbers ends : List ℕ) → List (List Piece) → Type 0
AreReduced numbers ends lists = lists ≡ map (λ c. reduced (pieces_of_stretch numbers ends c)) (range_with_len 0 (length lists))

-- A standing from which a stretch is walked over: it closes the rows that it closes where the walk stands, behind as many and the same last row
pub record IsHanded (numbers ends : List ℕ) (c : ℕ) (s : Standing) : Type 0 where
  pub rows : closes_all (acts_of_stretch numbers ends c) s ≡ rows_of_stretch numbers ends c
  pub count : s.count ≡ (standing_before numbers ends c).count
  pub last : s.last ≡ (standing_before numbers ends c).last
  pub sound : IsSound s
  pub few : rows_of s ≤ start_of ends c

abbrev pub nowhere : Standing
nowhere = record { stack = []; count = 0; last = no_row }

-- one for each stretch
pub record AreHanded (numbers ends : List ℕ) (standings : List Standing) : Type 0 where
  pub many : length ends ≤ length standings
  pub each : (c : ℕ) → c < length ends → IsHanded numbers ends c (slice_index_or standings c nowhere)

-- the stretches of a left parse, what holds before each, and the standing from which it is walked over
pub record AreStretches (numbers : List ℕ) (s : Stretches) : Type 0 where
  pub cut : IsCut numbers s.ends.now
  pub starts : AreStarts numbers s.ends.now s.starts.now
  pub begun : length s.ends.now ≤ length s.starts.now
  pub handed : AreHanded numbers s.ends.now s.handed.now

-- kinds, first rows of subtrees and own tokens of the rows that a stretch closes
abbrev pub AreColumnsOf : (text numbers ends : List ℕ) → ℕ → List Kind → (lows tokens : List ℕ) → Type 0
AreColumnsOf text numbers ends c kinds lows tokens =
    (r : Tree Prog) → IsParseOf text numbers r
    → AreStretch (left_parse r) (leaves r) (standing_before numbers ends c).count (standing_before numbers ends c).last (rows_of_stretch numbers ends c) kinds lows tokens

-- the least keys of the faults of the stretches of rows that end at these places, in order
abbrev pub AreKeys : List Kind → (lows tokens ends : List ℕ) → List ℕ → Type 0
AreKeys kinds lows tokens ends keys = keys ≡ map (λ c. least_in kinds lows tokens (start_of ends c) (number_at ends c)) (range_with_len 0 (length ends))
