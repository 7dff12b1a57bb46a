-- What stretches of rows declare, and how they count the variables of functions.
use denote.Ref.{Bor}
use Rattle.std.specs.Prelude.{◌≡◌, ℕ, ◌+◌, ◌-◌, ◌≤◌, List, map, if◌then◌else◌}
use Rattle.std.specs.List.{range_with_len}
use Rattle.list_cuts.specs.Cuts.{start_of}
use Rattle.source_meaning.specs.Rows.{Row}
use Rattle.ast_rows.specs.TokenRows.{TokenRow}
use Rattle.name_pass.specs.declared.key.NameKey.{NameKey}
use Rattle.name_pass.specs.declared.tally.Tally.{Tally}
use Rattle.name_pass.specs.RowNames.{count_in}
use Rattle.name_pass.specs.RowKeys.{keys_from}

-- the count behind a stretch, where it is so much before it
abbrev pub count_behind : Tally → ℕ → ℕ
count_behind t before = if t.anew then t.variables else before + t.variables

-- the counts before the first n of the stretches that end at these places
abbrev pub counts_of_stretches : List Row → List ℕ → ℕ → List ℕ
counts_of_stretches rows ends n = map (λ c. count_in rows (start_of ends c)) (range_with_len 0 n)

-- what the rows from one up to another declare: their keys, and what they do to the count
pub record AreDeclared (text : Bor (List ℕ)) (tokens : List TokenRow) (rows : List Row) (from to : ℕ) (keys : List NameKey) (tally : Tally) : Type 0 where
  pub keys_are : keys ≡ keys_from text tokens rows from (to - from)
  pub counts : count_in rows to ≡ count_behind tally (count_in rows from)
  pub few : tally.variables ≤ to
