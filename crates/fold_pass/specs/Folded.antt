-- The columns of the rows that stay, by lists.
use Rattle.std.specs.Prelude.{◌≡◌, ◌<◌, ◌≤◌, ℕ, ◌-◌, min, Bool, false, List, Option, Some, None, length, slice_index_or, if◌then◌else◌}
use Rattle.source_meaning.specs.declared.kinds.Kind.{Kind}
use Rattle.source_meaning.specs.declared.kinds.Kind.TheVariants.{Program as ProgramKind}
use Rattle.source_meaning.specs.Ast.{Program}
use Rattle.source_meaning.specs.Rows.{Row}
use Rattle.folded_rows.specs.Levels.{AreLinked}
use Rattle.row_rules.specs.Means.{AreNames}
use Rattle.ast_rows.specs.NameRows.{NameRows}
use Rattle.row_laws.specs.Evals.{is_eval}
use Rattle.folded_rows.specs.Columns.{AreConstants, Columns, kept, many, new_declared, new_kinds, new_lows, new_meant, new_rows, new_tokens, number_in, rank}

-- how many rows before row k stay, as a number of 32 bits
abbrev pub rank_in : List ℕ → ℕ → ℕ
rank_in ranks k = min (slice_index_or ranks k 0) 4294967295

-- the own token of the new row m
abbrev pub settled_by : List Kind → List ℕ → ℕ → ℕ
settled_by kinds words m = number_in words (if is_eval (slice_index_or kinds m ProgramKind) then m - 1 else m)

-- the new number of the row that a word names, if it stays
abbrev pub word_by : List Bool → List ℕ → ℕ → ℕ
word_by marks ranks w = if slice_index_or marks w false then rank_in ranks w else 4294967295

-- the columns of the rows that stay
pub record AreNewColumns (c : Columns) (values : List (Option ℕ)) (kinds : List Kind) (tokens lows : List ℕ) : Type 0 where
  pub kinds_are : kinds ≡ new_kinds c values
  pub tokens_are : tokens ≡ new_tokens c values
  pub lows_are : lows ≡ new_lows c values

-- what rows mean are rows
abbrev pub AreRowsMeant : Columns → List (Option ℕ) → Type 0
AreRowsMeant c meant = (k j : ℕ) → k < many c → slice_index_or meant k None ≡ Some j → j < many c

-- what the rows that stay mean and declare
pub record AreNewNames (c : Columns) (values : List (Option ℕ)) (old new : NameRows) : Type 0 where
  pub meant_are : AreRowsMeant c old.meant → new.meant ≡ new_meant c values old.meant
  pub numbers_are : new.numbers ≡ new_declared c values old.numbers
  pub main_is : old.main ≤ many c → new.main ≡ rank c values old.main
  pub meant_many : length new.meant ≡ length (kept c values)
  pub numbers_many : length new.numbers ≡ length (kept c values)

-- what rows tell of the names of a program
abbrev pub AreNamesOf : NameRows → Program → Type 0
AreNamesOf names p = AreNames p (λ k. slice_index_or names.meant k None) (λ k. slice_index_or names.numbers k 0) names.main

-- the rows and the names that columns and the constants of rows give
pub record IsFolding (c : Columns) (values : List (Option ℕ)) (old new : NameRows) (rows : List Row) : Type 0 where
  pub constants : AreLinked c → AreConstants c values
  pub rows_are : rows ≡ new_rows c values
  pub names_are : AreNewNames c values old new
