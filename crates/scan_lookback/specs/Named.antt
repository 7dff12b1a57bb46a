-- The list of sums that a board is made for.
use Rattle.std.specs.Prelude.{◌≡◌, ℕ, All, List, length, map}
use Rattle.word_monoid.specs.Monoid.{Ops, IsItem}
use Rattle.word_monoid.specs.Folds.{prefixes_from}

-- the sums are items, and these are their codes and the codes of the joins of the sums up to each and with it
pub record Names {T : Type 0} (ops : Ops T) (sums : List T) (sum_codes prefix_codes : List ℕ) : Type 0 where
  pub items : All (IsItem ops) sums
  pub sums_coded : sum_codes ≡ map ops.code sums
  pub prefixes_coded : prefix_codes ≡ map ops.code (prefixes_from ops sums 1 (length sums))
