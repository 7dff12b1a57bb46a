-- The kin of rows, by stretches and whole.
use Rattle.std.specs.Prelude.{◌≡◌, ℕ, List, length, map}
use Rattle.std.specs.List.{range_with_len}
use Rattle.ast_rows.specs.NodeRows.{lows_of}
use Rattle.row_laws.specs.Climbed.{parents_by, place_at}
use Rattle.row_kin.specs.declared.alone.Kin.{Kin}
use Rattle.row_kin.specs.declared.stretches.Ties.{Ties}

-- what is known of rows, a list for each: parents, first rows of subtrees, places
pub record AreTies (ties : List Ties) (parents lows places : List ℕ) : Type 0 where
  pub parents_are : parents ≡ map (λ t. t.parent) ties
  pub lows_are : lows ≡ map (λ t. t.low) ties
  pub places_are : places ≡ map (λ t. t.place) ties

-- the kin of rows whose subtrees begin at these ones
pub record AreKin (lows : List ℕ) (kin : Kin) : Type 0 where
  pub parents_are : kin.parents.items ≡ parents_by lows
  pub lows_are : kin.lows.items ≡ lows_of (parents_by lows)
  pub places_are : kin.places.items ≡ map (place_at (parents_by lows)) (range_with_len 0 (length lows))
