-- The join of a list of items, and of each of its beginnings.
use Rattle.std.specs.Prelude.{ℕ, suc, List, length, take, map, fold}
use Rattle.std.specs.List.{range_with_len}
use Rattle.word_monoid.specs.Monoid.{Ops}

module _ {T : Type 0} (ops : Ops T) where
  -- the join of all items, from left to right
  abbrev pub fold_of : List T → T
  fold_of items = fold ops.join ops.unit items

  -- the join of the items before place i
  abbrev pub prefix_of : List T → ℕ → T
  prefix_of items i = fold_of (take i items)

  -- the joins before each of the n places from `from` on
  abbrev pub prefixes_from : List T → ℕ → ℕ → List T
  prefixes_from items from n = map (prefix_of items) (range_with_len from n)

  -- the join before each item, and then the join of all
  abbrev pub prefixes : List T → List T
  prefixes items = prefixes_from items 0 (suc (length items))
