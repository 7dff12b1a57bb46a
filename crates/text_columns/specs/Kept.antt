-- Cells that are kept as one text, with the place where each ends.
use Rattle.std.specs.Prelude.{◌≡◌, ℕ, ◌≤◌, List, [], ◌∷◌, length, slice_range}
use Rattle.text_columns.specs.Columns.{Column, width}

-- the cells of a text from a place on
abbrev pub cells_from : ℕ → List ℕ → List ℕ → List (List ℕ)
cells_from start [] bytes = []
cells_from start (end ∷ ends) bytes = slice_range bytes start end ∷ cells_from end ends bytes

-- the ends go on from a place, and the last one is the end of all bytes
abbrev pub AreEnds : ℕ → List ℕ → ℕ → Type 0
AreEnds start [] all = start ≡ all
AreEnds start (end ∷ ends) all = (start ≤ end) × AreEnds end ends all

-- what is known of the fields of a column
pub record IsKept (column : Column) (ends bytes : List ℕ) (wide : ℕ) : Type 0 where
  pub ends_are : AreEnds 0 ends (length bytes)
  pub width_is : wide ≡ width column
