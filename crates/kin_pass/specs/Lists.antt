-- Parts of the three lists of the kin.
use Rattle.std.specs.Prelude.{◌≡◌, ℕ, ◌-◌, ◌^◌, ◌<◌, ◌≤◌, List, length}
use Rattle.list_cuts.specs.Cuts.{number_at, start_of, AreCuts}
use Rattle.list_parts.specs.declared.part.Part.{Part}
use Rattle.list_parts.specs.Parts.{part_items, Fits, SamePlaces}
use Rattle.row_kin.specs.Alone.{ties_alone, ties_by_stretches}
use Rattle.row_kin.specs.declared.alone.Kin.{Kin}
use Rattle.row_kin.specs.declared.stretches.Stretches.{Stretches}
use Rattle.row_kin.specs.declared.stretches.Ties.{Ties}
use Rattle.kin_pass.specs.Kin.{AreTies}
use Rattle.kin_pass.specs.declared.kin_parts.KinParts.{KinParts}

-- one of the three lists, by the part of it
abbrev pub Column : Type 0
Column = KinParts → Part ℕ

-- what holds of each of the three
pub record EachList (P : Column → Type 0) : Type 0 where
  pub parents : P (λ p. p.parents)
  pub lows : P (λ p. p.lows)
  pub places : P (λ p. p.places)

-- a part of this many values of 32 bits, which lie in one list
pub record IsLent (n : ℕ) (part : Part ℕ) : Type 0 where
  pub wide : length (part_items part) ≡ n
  pub fits : Fits 4 n

-- the parts have this many rows
abbrev pub AreWide : ℕ → KinParts → Type 0
AreWide n parts = EachList (λ list. length (part_items (list parts)) ≡ n)

-- the values of the parts are what is known of rows
abbrev pub AreTiesIn : List Ties → KinParts → Type 0
AreTiesIn ties parts = AreTies ties (part_items parts.parents) (part_items parts.lows) (part_items parts.places)

-- The lists have this many rows
pub record HasRows (n : ℕ) (kin : Kin) : Type 0 where
  pub parents : length kin.parents.items ≡ n
  pub lows : length kin.lows.items ≡ n
  pub places : length kin.places.items ≡ n

-- ---- rows by stretches
-- there is a stretch, and together they are all rows
pub record AreStretches (s : Stretches) : Type 0 where
  pub few : length s.lows.now ≤ 4294967295
  pub cuts : AreCuts s.ends.now (length s.lows.now)
  pub some : 0 < length s.ends.now
  pub count : length s.ends.now < 2 ^ 62

abbrev pub row_count : Stretches → ℕ
row_count s = length s.lows.now

-- what the stretches know by themselves, one behind the other
abbrev pub known_alone : Stretches → List Ties
known_alone s = ties_by_stretches s.lows.now s.ends.now

-- how many rows stretch c has, of those that end at these places
abbrev pub rows_in : List ℕ → ℕ → ℕ
rows_in ends c = number_at ends c - start_of ends c

-- the parts of stretch c lie where they lay, and have what the stretch knows by itself
pub record AreWritten (s : Stretches) (c : ℕ) (old new : KinParts) : Type 0 where
  pub place : EachList (λ list. SamePlaces (list old) (list new))
  pub ties : AreTiesIn (ties_alone s.lows.now (start_of s.ends.now c) (number_at s.ends.now c)) new
